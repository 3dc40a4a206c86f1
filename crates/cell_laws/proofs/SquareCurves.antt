-- Squares and lateral faces by the signs of their corners: turned round or counted from another corner, they have the
-- same curves. All cases of the signs are tried.
--
-- For `SquareFaces` and `SquareSegments`. Where a polygon's list of corners begins, and in which turn it goes, differs
-- from cell to cell; here it is shown that the first doesn't matter (`square-next`) and that the second turns the
-- curves round (`square-back`, `square-reversed`; `lateral-back` and `lateral-reversed` for lateral faces). The lemmas
-- at the end put turns one after another.
--
-- Offered to the proofs of the crates above, which import them: `square`, `lateral`, `square-keyed` and
-- `lateral-keyed`.
use Rattle.std.proofs.Common.{◌≡◌, ℕ, Bool, true, false, not, List, [], ◌∷◌, refl, sym, ◌∙◌, arith}
use Rattle.std.specs.Prelude.{slice_index_or}
use Rattle.terrain.specs.Curves.{no_side, AreAsOften}
use Rattle.lattice.specs.declared.key.Key.{Key}
use Rattle.cell_laws.proofs.WeightLemmas.{weight-flipped, weight_back-flipped}
use Rattle.cell_laws.specs.Squares.{AreReverses, AreInTurn, keyed}

-- the curves of a square with these signs and keys
unfoldable pub square : (a b c d : Bool) (ab bc cd da : Key) → List (Key × Key)
square a b c d ab bc cd da =
    let keys : List Key = ab ∷ bc ∷ cd ∷ da ∷ [] in
    keyed (λ n. slice_index_or keys n ab) (record {
      solid = a ∷ b ∷ c ∷ d ∷ [];
      sides = 0 ∷ 1 ∷ 2 ∷ 3 ∷ [];
    })

-- the curves of a lateral face whose coarse edge goes from an end to the other one, and whose fine edges go back over
-- the middle
unfoldable pub lateral : (start middle end : Bool) (coarse second first : Key) → List (Key × Key)
lateral start middle end coarse second first =
    let keys : List Key = coarse ∷ second ∷ first ∷ [] in
    keyed (λ n. slice_index_or keys n coarse)
    (record {
      solid = start ∷ end ∷ end ∷ middle ∷ start ∷ [];
      sides = 0 ∷ no_side ∷ 1 ∷ 2 ∷ no_side ∷ [];
    })

-- ---- by other numbers of the sides

-- the curves of a square, with the keys of its sides for their numbers
pub square-keyed : (key : ℕ → Key) (n m k l : ℕ) (a b c d : Bool)
    → keyed key (record { solid = a ∷ b ∷ c ∷ d ∷ []; sides = n ∷ m ∷ k ∷ l ∷ [] })
    ≡ square a b c d (key n) (key m) (key k) (key l)
unfolding square
square-keyed key n m k l true true true true = refl
square-keyed key n m k l true true true false = refl
square-keyed key n m k l true true false true = refl
square-keyed key n m k l true true false false = refl
square-keyed key n m k l true false true true = refl
square-keyed key n m k l true false true false = refl
square-keyed key n m k l true false false true = refl
square-keyed key n m k l true false false false = refl
square-keyed key n m k l false true true true = refl
square-keyed key n m k l false true true false = refl
square-keyed key n m k l false true false true = refl
square-keyed key n m k l false true false false = refl
square-keyed key n m k l false false true true = refl
square-keyed key n m k l false false true false = refl
square-keyed key n m k l false false false true = refl
square-keyed key n m k l false false false false = refl

-- the curves of a lateral face, with the keys of its sides for their numbers
pub lateral-keyed : (key : ℕ → Key) (n m k : ℕ) (a b c : Bool)
    → keyed key (record {
      solid = a ∷ c ∷ c ∷ b ∷ a ∷ [];
      sides = n ∷ no_side ∷ m ∷ k ∷ no_side ∷ [];
    }) ≡ lateral a b c (key n) (key m) (key k)
unfolding lateral
lateral-keyed key n m k true true true = refl
lateral-keyed key n m k true true false = refl
lateral-keyed key n m k true false true = refl
lateral-keyed key n m k true false false = refl
lateral-keyed key n m k false true true = refl
lateral-keyed key n m k false true false = refl
lateral-keyed key n m k false false true = refl
lateral-keyed key n m k false false false = refl

-- ---- from another corner, and turned round

-- the curves of a square are the same from its next corner on
pub square-next : (ab bc cd da : Key) (a b c d : Bool)
    → AreAsOften (square b c d a bc cd da ab) (square a b c d ab bc cd da)
unfolding square
square-next ab bc cd da true true true true = λ w. omega arith
square-next ab bc cd da true true true false = λ w. omega arith
square-next ab bc cd da true true false true = λ w. omega arith
square-next ab bc cd da true true false false = λ w. omega arith
square-next ab bc cd da true false true true = λ w. omega arith
square-next ab bc cd da true false true false = λ w. omega arith
square-next ab bc cd da true false false true = λ w. omega arith
square-next ab bc cd da true false false false = λ w. omega arith
square-next ab bc cd da false true true true = λ w. omega arith
square-next ab bc cd da false true true false = λ w. omega arith
square-next ab bc cd da false true false true = λ w. omega arith
square-next ab bc cd da false true false false = λ w. omega arith
square-next ab bc cd da false false true true = λ w. omega arith
square-next ab bc cd da false false true false = λ w. omega arith
square-next ab bc cd da false false false true = λ w. omega arith
square-next ab bc cd da false false false false = λ w. omega arith

-- a square whose corners go the other way round from its first one has its curves the other way round
pub square-back : (ab bc cd da : Key) (a b c d : Bool)
    → AreReverses (square a d c b da cd bc ab) (square a b c d ab bc cd da)
unfolding square
square-back ab bc cd da true true true true = λ w. omega arith
square-back ab bc cd da true true true false = λ w. omega arith
square-back ab bc cd da true true false true = λ w. omega arith
square-back ab bc cd da true true false false = λ w. omega arith
square-back ab bc cd da true false true true = λ w. omega arith
square-back ab bc cd da true false true false = λ w. omega arith
square-back ab bc cd da true false false true = λ w. omega arith
square-back ab bc cd da true false false false = λ w. omega arith
square-back ab bc cd da false true true true = λ w. omega arith
square-back ab bc cd da false true true false = λ w. omega arith
square-back ab bc cd da false true false true = λ w. omega arith
square-back ab bc cd da false true false false = λ w. omega arith
square-back ab bc cd da false false true true = λ w. omega arith
square-back ab bc cd da false false true false = λ w. omega arith
square-back ab bc cd da false false false true = λ w. omega arith
square-back ab bc cd da false false false false = λ w. omega arith

-- the curves of a square with its corners in reverse are its curves the other way round
pub square-reversed : (ab bc cd da : Key) (a b c d : Bool)
    → AreReverses (square d c b a cd bc ab da) (square a b c d ab bc cd da)
unfolding square
square-reversed ab bc cd da true true true true = λ w. omega arith
square-reversed ab bc cd da true true true false = λ w. omega arith
square-reversed ab bc cd da true true false true = λ w. omega arith
square-reversed ab bc cd da true true false false = λ w. omega arith
square-reversed ab bc cd da true false true true = λ w. omega arith
square-reversed ab bc cd da true false true false = λ w. omega arith
square-reversed ab bc cd da true false false true = λ w. omega arith
square-reversed ab bc cd da true false false false = λ w. omega arith
square-reversed ab bc cd da false true true true = λ w. omega arith
square-reversed ab bc cd da false true true false = λ w. omega arith
square-reversed ab bc cd da false true false true = λ w. omega arith
square-reversed ab bc cd da false true false false = λ w. omega arith
square-reversed ab bc cd da false false true true = λ w. omega arith
square-reversed ab bc cd da false false true false = λ w. omega arith
square-reversed ab bc cd da false false false true = λ w. omega arith
square-reversed ab bc cd da false false false false = λ w. omega arith

-- the curves of a lateral face in reverse are its curves the other way round
pub lateral-back : (ab bc ca : Key) (a b c : Bool)
    → AreReverses (lateral c b a ab ca bc) (lateral a b c ab bc ca)
unfolding lateral
lateral-back ab bc ca true true true = λ w. omega arith
lateral-back ab bc ca true true false = λ w. omega arith
lateral-back ab bc ca true false true = λ w. omega arith
lateral-back ab bc ca true false false = λ w. omega arith
lateral-back ab bc ca false true true = λ w. omega arith
lateral-back ab bc ca false true false = λ w. omega arith
lateral-back ab bc ca false false true = λ w. omega arith
lateral-back ab bc ca false false false = λ w. omega arith

-- the curves of a lateral face in the other turn are its curves the other way round
pub lateral-reversed : (key : ℕ → Key) (n m k : ℕ) (a b c : Bool)
    → AreReverses (keyed key (record {
      solid = a ∷ b ∷ c ∷ c ∷ a ∷ [];
      sides = k ∷ m ∷ no_side ∷ n ∷ no_side ∷ [];
    })) (lateral a b c (key n) (key m) (key k))
unfolding lateral
lateral-reversed key n m k true true true = λ w. omega arith
lateral-reversed key n m k true true false = λ w. omega arith
lateral-reversed key n m k true false true = λ w. omega arith
lateral-reversed key n m k true false false = λ w. omega arith
lateral-reversed key n m k false true true = λ w. omega arith
lateral-reversed key n m k false true false = λ w. omega arith
lateral-reversed key n m k false false true = λ w. omega arith
lateral-reversed key n m k false false false = λ w. omega arith

-- ---- there and back

-- turned round twice, the edges are as they were
pub reverses-twice : (xs ys zs : List (Key × Key)) → AreReverses xs ys → AreReverses ys zs
    → AreAsOften xs zs
reverses-twice xs ys zs there back w = there w ∙ sym (weight-flipped w ys) ∙ back (λ a b. w b a)
    ∙ weight_back-flipped w zs

-- edges that are those of a third list in opposite turns are each other's reverses
pub reverses-across : (straight : Bool) (xs ys zs : List (Key × Key)) → AreInTurn straight xs zs
    → AreInTurn (not straight) ys zs → AreReverses xs ys
reverses-across true xs ys zs there back = λ w. there w ∙ sym (weight_back-flipped w zs)
    ∙ sym (back (λ a b. w b a)) ∙ weight-flipped w ys
reverses-across false xs ys zs there back = λ w. there w ∙ sym (weight-flipped w zs)
    ∙ sym (back (λ a b. w b a)) ∙ weight-flipped w ys

-- curves in the one turn of a square and in the other are each other's the other way round
pub reverses-back : (straight : Bool) (xs ys zs : List (Key × Key)) → AreInTurn (not straight) xs zs
    → AreInTurn straight ys zs → AreReverses xs ys
reverses-back true xs ys zs there back = reverses-across false xs ys zs there back
reverses-back false xs ys zs there back = reverses-across true xs ys zs there back
