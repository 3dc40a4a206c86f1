-- The table of followers: how it is filled from the curves of a cell.
--
-- For `Followers::new` and `Followers::insert`. One more curve is one more entry, and no entry is written twice, as
-- curves start apart (`Follows-insert`). `Follows-more` is that step inside the loop over a face's curves, which come
-- behind those of other faces. `StartApart-front` passes "start apart" on from all curves of a cell to those of its
-- first faces.
use Rattle.std.proofs.Common.{◌≡◌, ◌||◌, ℕ, ◌+◌, ◌<◌, Bool, true, false, ◌==◌, ⊎_elim, Option, Some, None, List, [], ◌∷◌, ◌++◌, length, slice_index_or, slice_set, take, drop, replicate, cond, eq-eqb, ne_eqb, refl, sym, ap, ◌∙◌, subst, arith}
use Rattle.std.proofs.lemmas.List.{length-set, get_or-set_same, get_or-set_other, append_assoc, take_more, drop_more, take-append-drop, get_or-replicate}
use Rattle.std.proofs.lemmas.Bool.{cases_eq}
use Rattle.terrain.specs.declared.curve.Curve.{Curve}
use Rattle.terrain.specs.Curves.{starts, next}
use Rattle.face_curves.specs.Followers.{follower, Follows, StartApart}

-- the first, or else the second
abbrev pub or_else : Option ℕ → Option ℕ → Option ℕ
or_else (Some x) o = Some x
or_else None o = o

-- nothing else to take
or_else-None : (o : Option ℕ) → or_else o None ≡ o
or_else-None (Some x) = refl
or_else-None None = refl

-- by cases, for `follower-cons`
first_or : (b s : Bool) (end rest : ℕ) → cond (b || s) (Some (cond b end rest)) None
    ≡ cond b (Some end) (cond s (Some rest) None)
first_or true s end rest = refl
first_or false s end rest = refl

-- a key's follower is the first curve's end, or that among the other curves
follower-cons : (c : Curve) (cs : List Curve) (key : ℕ)
    → follower (c ∷ cs) key ≡ cond {A = Option ℕ} (c.start == key) (Some c.end) (follower cs key)
unfolding next
follower-cons c cs key = first_or (c.start == key) (starts cs key) c.end (next cs key)

-- by cases, for `follower-append`
or_else-cond : (b : Bool) (end : ℕ) (o rest : Option ℕ)
    → cond b (Some end) (or_else o rest) ≡ or_else (cond b (Some end) o) rest
or_else-cond true end o rest = refl
or_else-cond false end o rest = refl

-- a key's follower in two lists is that of the first, or else that of the second
follower-append : (cs ds : List Curve) (key : ℕ)
    → follower (cs ++ ds) key ≡ or_else (follower cs key) (follower ds key)
follower-append [] ds key = refl
follower-append (c ∷ cs) ds key =
    follower-cons c (cs ++ ds) key ∙ ap (cond {A = Option ℕ} (c.start == key) (Some c.end))
    (follower-append cs ds key) ∙ or_else-cond (c.start == key) c.end (follower cs key)
    (follower ds key) ∙ ap (λ o. or_else o (follower ds key)) (sym (follower-cons c cs key))

-- a key at which no curve starts has no follower
follower-none : (cs : List Curve) (key : ℕ) → starts cs key ≡ false → follower cs key ≡ None
follower-none cs key none = ap (λ b. cond {A = Option ℕ} b (Some (next cs key)) None) none

-- one more curve, which starts where none did
Follows-insert : (cs : List Curve) (table : List (Option ℕ)) (c : Curve) → Follows cs table
    → c.start < 16 → starts cs c.start ≡ false
    → Follows (cs ++ c ∷ []) (slice_set table c.start (Some c.end))
Follows-insert cs table c follows low fresh = record {
  whole = length-set table c.start (Some c.end) ∙ follows.whole;
  each = λ key within. ⊎_elim
      (λ same. let e : key ≡ c.start = same in
      subst (λ k. slice_index_or (slice_set table c.start (Some c.end)) k None
      ≡ follower (cs ++ c ∷ []) k) (sym e)
      (get_or-set_same table c.start (Some c.end) None (omega (arith, follows.whole))
      ∙ sym (follower-append cs (c ∷ []) c.start
      ∙ ap (λ o. or_else o (follower (c ∷ []) c.start)) (follower-none cs c.start fresh)
      ∙ follower-cons c [] c.start ∙ ap (λ b. cond {A = Option ℕ} b (Some c.end) None)
      (eq-eqb c.start c.start refl))))
      (λ other. get_or-set_other table c.start key (Some c.end) None other ∙ follows.each key within
      ∙ sym (follower-append cs (c ∷ []) key
      ∙ ap (or_else (follower cs key)) (follower-cons c [] key
      ∙ ap (λ b. cond {A = Option ℕ} b (Some c.end) None)
      (ne_eqb c.start key (λ e. other (sym e)))) ∙ or_else-None (follower cs key)))
      (cases_eq key c.start);
}

-- fewer curves start apart too
pub StartApart-front : (cs ds : List Curve) → StartApart (cs ++ ds) → StartApart cs
StartApart-front cs ds apart before after c e =
    apart before (after ++ ds) c (ap (λ xs. xs ++ ds) e ∙ append_assoc before (c ∷ after) ds)

-- a step of the loop over the curves of a face, which come behind others
pub Follows-more : (cs ds : List Curve) (table : List (Option ℕ)) (i : ℕ) (c : Curve)
    → i < length ds → c ≡ slice_index_or ds i c → c.start < 16 → StartApart (cs ++ ds)
    → Follows (cs ++ take i ds) table → Follows (cs ++ take (i + 1) ds)
    (slice_set table c.start (Some c.end))
Follows-more cs ds table i c within here low apart follows =
    let more : take (i + 1) ds ≡ take i ds ++ c ∷ [] = take_more ds i c within
    ∙ ap (λ d. take i ds ++ d ∷ []) (sym here) in
    let split : cs ++ ds ≡ (cs ++ take i ds) ++ c ∷ drop (i + 1) ds =
    ap (λ xs. cs ++ xs) (sym (take-append-drop i ds)
    ∙ ap (λ xs. take i ds ++ xs) (drop_more ds i c within
    ∙ ap (λ d. d ∷ drop (i + 1) ds) (sym here)))
    ∙ sym (append_assoc cs (take i ds) (c ∷ drop (i + 1) ds)) in
    let entered = Follows-insert (cs ++ take i ds) table c follows low
    (apart (cs ++ take i ds) (drop (i + 1) ds) c split) in
    subst (λ xs. Follows xs (slice_set table c.start (Some c.end)))
    (append_assoc cs (take i ds) (c ∷ []) ∙ ap (λ xs. cs ++ xs) (sym more)) entered

-- the empty table
pub Follows-none : Follows [] (replicate 16 None)
Follows-none = record {
  whole = refl;
  each = λ key within. get_or-replicate 16 key None None within;
}
