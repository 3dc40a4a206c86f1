-- The table has the move at the number of the point's border.
use Rattle.std.proofs.Common.{◌≡◌, get_or, sym, ap, ◌∙◌, subst}
use Rattle.std.proofs.lemmas.Option.{get_or_from_slice_get}
use Rattle.vertex_places.specs.Directions.{border_of, number}
use Rattle.vertex_places.specs.Moves.{IsShift, IsSmall, move_at}
use Rattle.vertex_places.proofs.Numbering.{number-most, numbered-number}
use Rattle.vertex_places.proofs.Octants.{border_at-most}
use Rattle.vertex_places.proofs.Shifts.{leaf_move-small, leaf_shift}
use Rattle.vertex_places.proofs.moves.Moves.at.Goals as goal

pub returns-clause-value : goal.returns-clause-value
returns-clause-value c =
    let d = border_of c.args.z c.args.y c.args.x in
    let hz = border_at-most c.args.z in
    let hy = border_at-most c.args.y in
    let hx = border_at-most c.args.x in
    let entry = c.self.invariant.moves (number d) (number-most d hz hy hx) in
    let at : c.number.result ≡ number d = c.number.ensures ∙ ap number c.of_border.ensures in
    let read = get_or_from_slice_get c.self.inside.table (number d) _ _ entry in
    ap (λ n. get_or c.self.inside.table n _) at ∙ read
    ∙ (λ t. move_at (c.self.view_is t) (numbered-number d hz hy hx t))

pub returns-clause-small : goal.returns-clause-small
returns-clause-small c =
    subst (IsSmall c.args.self.now.node.level) (sym (returns-clause-value c))
    (leaf_move-small c.args.self.now c.args.z c.args.y c.args.x)

pub returns-clause-shift : goal.returns-clause-shift
returns-clause-shift c m is =
    let p = IsShift c.args.self.now.depth m c.args.self.now.node.level _ in
    subst p (sym (returns-clause-value c))
    (leaf_shift c.args.self.now m c.args.z c.args.y c.args.x is c.requires.z c.requires.y
    c.requires.x)
