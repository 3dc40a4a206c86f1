-- Equal rims have equal bits, so equal transitional faces.
use Rattle.std.proofs.Common.{◌≡◌, ℕ, zero, suc, ◌<◌, Bool, true, false, List, [], ◌∷◌, map, length, get_or, refl, sym, ap, ◌∙◌, arith}
use Rattle.std.proofs.lemmas.Bool.{and_right}
use Rattle.lattice.specs.declared.node.Node.{Node}
use Rattle.lattice.specs.declared.point.Face.{Face}
use Rattle.lattice.specs.declared.point.Face.TheVariants.{XLow, XHigh, YLow, YHigh, ZLow, ZHigh}
use Rattle.lattice.specs.Offset.{Direction, across, directions, has_neighbour}
use Rattle.terrain.specs.Levels.{LevelMap, is_finer, is_transitional, rim}
use Rattle.terrain.specs.Lists.{binary}
use Rattle.event_laws.proofs.MapLemmas.{binary-none}

-- numbers are equal where their first digits are and their other digits are
binary-parts : (a b : Bool) (ds es : List Bool) → binary (a ∷ ds) ≡ binary (b ∷ es)
    → (a ≡ b) × (binary ds ≡ binary es)
binary-parts true true ds es h = (refl, omega arith)
binary-parts false false ds es h = (refl, omega arith)
binary-parts true false ds es h = absurd (omega arith)
binary-parts false true ds es h = absurd (omega arith)

-- equal numbers have equal digits at the place of an item
binary-digit : {A : Type 0} (f g : A → Bool) (xs : List A) (k : ℕ) (x : A) → k < length xs
    → get_or xs k x ≡ x → binary (map f xs) ≡ binary (map g xs) → f x ≡ g x
binary-digit f g [] k x k_in is h = absurd (omega arith)
binary-digit f g (y ∷ ys) zero x k_in is h =
    ap f (sym is) ∙ (binary-parts (f y) (g y) (map f ys) (map g ys) h).0 ∙ ap g is
binary-digit f g (y ∷ ys) (suc k) x k_in is h =
    binary-digit f g ys k x (omega arith) is
    (binary-parts (f y) (g y) (map f ys) (map g ys) h).1

module _ (depth : ℕ) (m l : LevelMap) (n : Node) (same : rim depth m n ≡ rim depth l n) where
  -- the bit of a direction, by its place among the 26
  digit : (k : ℕ) (d : Direction) → k < 26 → get_or directions k d ≡ d
      → is_finer depth m d n ≡ is_finer depth l d n
  digit k d k_in is = binary-digit (λ e. is_finer depth m e n) (λ e. is_finer depth l e n)
      directions k d k_in is same

  -- where rims are equal, the same faces are transitional
  pub is_transitional-same : (face : Face)
      → is_transitional depth m n face ≡ is_transitional depth l n face
  is_transitional-same XLow = digit 12 (across XLow) (omega arith) refl
  is_transitional-same XHigh = digit 13 (across XHigh) (omega arith) refl
  is_transitional-same YLow = digit 10 (across YLow) (omega arith) refl
  is_transitional-same YHigh = digit 15 (across YHigh) (omega arith) refl
  is_transitional-same ZLow = digit 4 (across ZLow) (omega arith) refl
  is_transitional-same ZHigh = digit 21 (across ZHigh) (omega arith) refl

-- where a rim has no bit, no face is transitional
pub is_transitional-none : (depth : ℕ) (m : LevelMap) (n : Node) (face : Face)
    → rim depth m n ≡ 0 → is_transitional depth m n face ≡ false
is_transitional-none depth m n face none =
    let bare : LevelMap = λ node. false in
    let no_bit : rim depth bare n ≡ 0 = binary-none (λ d. is_finer depth bare d n) directions
    (λ d. and_right (has_neighbour depth d n) false refl) in
    is_transitional-same depth m bare n (none ∙ sym no_bit) face
    ∙ and_right (has_neighbour depth (across face) n) false refl
