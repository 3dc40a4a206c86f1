-- Words and their marks stay so when both are changed; for the calls of `Bits`.
-- What a call reads are its fields (`IsMarked-read`), and what it writes are they again
-- (`IsMarked-both_written`). In between each bit that is set has to be marked, and each mark has to
-- be a word's (`IsMarked-from`): where a bit and its mark are set or cleared no other one is changed,
-- and where the bits of two lists come together their marks do.
use Rattle.std.proofs.Common.{◌≡◌, ◌≢◌, ℕ, ◌/◌, ◌<◌, true, false, List, length, get_or, take, drop, ◌++◌, sym, ap, ◌∙◌, subst, inl, inr, arith}
use Rattle.std.specs.Prelude.{◌&&◌, ◌||◌}
use Rattle.std.proofs.lemmas.Bool.{and_parts, and_right, cases_Bool, cases_eq, or_parts}
use Rattle.node_tables.specs.Marks.{IsMarked}
use Rattle.node_tables.specs.NodeBits.{has_bit}
use Rattle.node_tables.proofs.RunLemmas.{has_bit-zero}
use Rattle.node_tables.proofs.WordLemmas.{written}

-- ---- what is read and written

-- words and marks that are read
pub IsMarked-read : (words marks ws ms : List ℕ) → ws ≡ words → ms ≡ marks
    → IsMarked words marks → IsMarked ws ms
IsMarked-read words marks ws ms words_are marks_are marked =
    subst (λ m. IsMarked ws m) (sym marks_are)
    (subst (λ w. IsMarked w marks) (sym words_are) marked)

-- words that are written over as many others
pub IsMarked-written : (words before marks : List ℕ) (n : ℕ) → length words ≡ n
    → IsMarked words marks → IsMarked (take n (words ++ drop (length words) before)) marks
IsMarked-written words before marks n long marked =
    subst (λ w. IsMarked w marks) (sym (written words before n long)) marked

-- and marks too
pub IsMarked-both_written : (words before marks marks_before : List ℕ) (n m : ℕ)
    → length words ≡ n → length marks ≡ m → IsMarked words marks
    → IsMarked (take n (words ++ drop (length words) before))
    (take m (marks ++ drop (length marks) marks_before))
IsMarked-both_written words before marks marks_before n m long marks_long marked =
    let all = take n (words ++ drop (length words) before) in
    subst (λ ms. IsMarked all ms) (sym (written marks marks_before m marks_long))
    (IsMarked-written words before marks n long marked)

-- ---- what is changed

module _ (words marks new new_marks : List ℕ) (marked : IsMarked words marks)
    (long : length new ≡ length words) (marks_long : length new_marks ≡ length marks) where
  -- each bit that is set is marked, and each mark is a word's
  IsMarked-from : ((p : ℕ) → has_bit new_marks (p / 64) ≡ false → has_bit new p ≡ false)
      → ((w : ℕ) → has_bit new_marks w ≡ true → w < length words) → IsMarked new new_marks
  IsMarked-from unmarked spare = record {
    few = omega (arith, marked.few);
    long = omega (arith, marked.long);
    unmarked = unmarked;
    spare = λ w set. omega (arith, spare w set);
  }

  -- a bit and its mark are set
  pub IsMarked-set : (place : ℕ) → place / 64 < length words
      → has_bit new_marks (place / 64) ≡ true
      → ((p : ℕ) → p ≢ place → has_bit new p ≡ has_bit words p)
      → ((w : ℕ) → w ≢ place / 64 → has_bit new_marks w ≡ has_bit marks w)
      → IsMarked new new_marks
  IsMarked-set place within here others marks_others =
      IsMarked-from (λ p off.
      let apart : p / 64 ≢ place / 64 = λ same.
      (let set : has_bit new_marks (p / 64) ≡ true = ap (has_bit new_marks) same ∙ here in
      absurd (cc)) in
      others p (λ same. apart (ap (λ q. q / 64) same))
      ∙ marked.unmarked p (sym (marks_others (p / 64) apart) ∙ off))
      (λ w set. elim (cases_eq w (place / 64)) [
        | inl same ↦ omega arith
        | inr other ↦ marked.spare w (sym (marks_others w other) ∙ set)
      ])

  -- a bit is cleared, and the mark of its word, which is 0
  pub IsMarked-cleared : (place : ℕ) → get_or new (place / 64) 0 ≡ 0
      → has_bit new_marks (place / 64) ≡ false
      → ((p : ℕ) → p ≢ place → has_bit new p ≡ has_bit words p)
      → ((w : ℕ) → w ≢ place / 64 → has_bit new_marks w ≡ has_bit marks w)
      → IsMarked new new_marks
  IsMarked-cleared place empty here others marks_others =
      IsMarked-from (λ p off. elim (cases_eq (p / 64) (place / 64)) [
        | inl same ↦ has_bit-zero new p (ap (λ w. get_or new w 0) same ∙ empty)
        | inr apart ↦
            others p (λ same. apart (ap (λ q. q / 64) same))
            ∙ marked.unmarked p (sym (marks_others (p / 64) apart) ∙ off)
      ])
      (λ w set. elim (cases_eq w (place / 64)) [
        | inl same ↦
            (let unset : has_bit new_marks w ≡ false = ap (has_bit new_marks) same ∙ here in
            absurd (cc))
        | inr other ↦ marked.spare w (sym (marks_others w other) ∙ set)
      ])

  -- no bit is set
  pub IsMarked-none : ((p : ℕ) → has_bit new p ≡ false) → ((w : ℕ) → has_bit new_marks w ≡ false)
      → IsMarked new new_marks
  IsMarked-none none no_marks =
      IsMarked-from (λ p off. none p) (λ w set. let unset = no_marks w in absurd (cc))

  -- the bits and the marks of two lists are set
  pub IsMarked-or : (others other_marks : List ℕ) → length others ≡ length words
      → IsMarked others other_marks
      → ((p : ℕ) → has_bit new p ≡ (has_bit words p || has_bit others p))
      → ((w : ℕ) → has_bit new_marks w ≡ (has_bit marks w || has_bit other_marks w))
      → IsMarked new new_marks
  IsMarked-or others other_marks others_long other each marks_each =
      IsMarked-from (λ p off.
      let parts = or_parts (has_bit marks (p / 64)) (has_bit other_marks (p / 64))
      (sym (marks_each (p / 64)) ∙ off) in
      each p ∙ (λ t. (marked.unmarked p parts.0 t) || (other.unmarked p parts.1 t)))
      (λ w set. elim (cases_Bool (has_bit marks w)) [
        | inl own ↦ marked.spare w own
        | inr off ↦
            let its : has_bit other_marks w ≡ true =
            sym (ap (λ b. b || has_bit other_marks w) off) ∙ sym (marks_each w) ∙ set in
            omega (arith, other.spare w its)
      ])

  -- the bits and the marks that another list hasn't are cleared
  pub IsMarked-and : (others other_marks : List ℕ) → IsMarked others other_marks
      → ((p : ℕ) → has_bit new p ≡ (has_bit words p && has_bit others p))
      → ((w : ℕ) → has_bit new_marks w ≡ (has_bit marks w && has_bit other_marks w))
      → IsMarked new new_marks
  IsMarked-and others other_marks other each marks_each =
      IsMarked-from (λ p off. elim (cases_Bool (has_bit marks (p / 64))) [
        | inl own ↦
            let its : has_bit other_marks (p / 64) ≡ false =
            sym (ap (λ b. b && has_bit other_marks (p / 64)) own) ∙ sym (marks_each (p / 64))
            ∙ off in
            each p ∙ and_right (has_bit words p) (has_bit others p) (other.unmarked p its)
        | inr none ↦ each p ∙ ap (λ b. b && has_bit others p) (marked.unmarked p none)
      ])
      (λ w set. marked.spare w ((and_parts (has_bit marks w) (has_bit other_marks w)
      (sym (marks_each w) ∙ set)).0))

-- bits are cleared, and their marks kept
pub IsMarked-kept : (words marks new : List ℕ) → IsMarked words marks → length new ≡ length words
    → ((p : ℕ) → has_bit words p ≡ false → has_bit new p ≡ false) → IsMarked new marks
IsMarked-kept words marks new marked long kept = record {
  few = omega (arith, marked.few);
  long = omega (arith, marked.long);
  unmarked = λ p off. kept p (marked.unmarked p off);
  spare = λ w set. omega (arith, marked.spare w set);
}
