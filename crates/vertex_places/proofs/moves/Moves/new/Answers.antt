-- The entry that is written is the move on the border of its number.
use Rattle.std.proofs.Common.{◌≡◌, ℕ, ◌+◌, ◌<◌, List, length, get_or, Some, ◌⊎◌, inl, inr, sym, ap, ◌∙◌, arith, pos}
use Rattle.std.proofs.Math.ListN.{replicate, set}
use Rattle.std.specs.List.{slice_get}
use Rattle.std.proofs.lemmas.Option.{slice_get-get_or}
use Rattle.std.proofs.lemmas.List.{get_or-set_same, get_or-replicate, get_or-set_other, length-replicate, length-set}
use Rattle.std.proofs.lemmas.Option.{get_or_from_slice_get}
use Rattle.vertex_places.specs.Directions.{direction_numbered}
use Rattle.vertex_places.specs.declared.direction.TheConstants.{DIRECTIONS}
use Rattle.vertex_places.specs.declared.leaf_rim.LeafRim.{LeafRim}
use Rattle.vertex_places.specs.declared.moves.Move.{Move}
use Rattle.vertex_places.specs.Moves.{HasMoves, move_at}
use Rattle.vertex_places.proofs.Shifts.{move_at-none}
use Rattle.vertex_places.proofs.moves.Moves.new.Goals as goal

-- one more entry of a list
slice_get-set_more : {A : Type 0} (f : ℕ → A) (xs : List A) (k : ℕ) (x : A) → k < length xs
    → ((n : ℕ) → n < k → slice_get xs n ≡ Some (f n)) → x ≡ f k
    → (n : ℕ) → n < k + 1 → slice_get (set xs k x) n ≡ Some (f n)
slice_get-set_more f xs k x within before here n below =
    let long : length (set xs k x) ≡ length xs = length-set xs k x in
    let read = slice_get-get_or (set xs k x) n x (omega (arith, long)) in
    let cases : (n ≡ k) ⊎ (n < k) = grind arith in
    elim cases [
      | inl same ↦
          read ∙ ap Some (ap (λ i. get_or (set xs k x) i x) same
          ∙ get_or-set_same xs k x x within ∙ here ∙ ap f (sym same))
      | inr less ↦
          read ∙ ap Some (get_or-set_other xs k n x x (λ e. omega arith)
          ∙ get_or_from_slice_get xs n (f n) x (before n less))
    ]

abbrev none : Move
none = record { x = pos 0; y = pos 0; z = pos 0 }

-- with no finer place next to the leaf, no point moves
moves-none : (leaf : LeafRim) → leaf.rim ≡ 0 → HasMoves leaf (replicate DIRECTIONS none)
moves-none leaf bare n within =
    slice_get-get_or (replicate DIRECTIONS none) n none
    (omega (arith, within, length-replicate DIRECTIONS none))
    ∙ ap Some (get_or-replicate DIRECTIONS n none none within)
    ∙ ap Some (sym (move_at-none leaf (direction_numbered n) bare))

pub invariant_of-result : goal.invariant_of-result
invariant_of-result c =
    let leaf : LeafRim = record { depth = c.args.depth; node = c.args.node; rim = c.args.rim } in
    record {
      still = c.still_points-still.ensures;
      moves = moves-none leaf c.if-rim-eq0.true;
    }

pub loop-number-preserved : goal.loop-number-preserved
loop-number-preserved c =
    let items = c.loop-number.entry-items in
    let number = c.loop-number.number in
    let within : number < length items =
    omega (arith, c.loop-number.invariant.long, c.loop-number-test.true) in
    let written = c.move_at.ensures ∙ ap (move_at _) c.numbered.ensures in
    record {
      long = length-set items number _ ∙ c.loop-number.invariant.long;
      moves =
          slice_get-set_more (λ n. move_at _ (direction_numbered n)) items number _ within
          c.loop-number.invariant.moves written;
    }
