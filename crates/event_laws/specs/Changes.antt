-- What a list of events changes: the leaves that one of them touches, and those that go.
-- Source: this project's rule.
use Rattle.std.specs.Prelude.{Bool, false, ◌||◌, not, List, [], ◌∷◌, ◌++◌, filter}
use Rattle.lattice.specs.declared.node.Node.{Node}
use Rattle.lattice.specs.declared.settings.Settings.{Settings}
use Rattle.lattice.specs.Node.{is_among}
use Rattle.terrain.specs.declared.event.Event.{Event}
use Rattle.terrain.specs.Blocks.{Brick, brick, touched}
use Rattle.terrain.specs.History.{sample}
use Rattle.terrain.specs.Levels.{is_leaf, leaves, levels}

-- whether one of some events that follow a history touches a node, at the event's place among them
unfoldable pub is_touched : Settings → List Event → List Event → Node → Bool
is_touched settings history [] n = false
is_touched settings history (e ∷ es) n =
    is_among (touched settings history e) n || is_touched settings (history ++ e ∷ []) es n

-- the leaves after some events, of those that one of the events touches, and the leaves before them that are leaves no
-- more, both in the order of nodes
pub record Change : Type 0 where
  pub put : List Node
  pub gone : List Node

-- what some events change that follow a history
abbrev pub change : Settings → List Event → List Event → Change
change settings history events =
    let depth = settings.depth in
    let before = levels settings history in
    let after = levels settings (history ++ events) in
    record {
      put = filter (is_touched settings history events) (leaves depth after);
      gone = filter (λ n. not (is_leaf depth after n)) (leaves depth before);
    }

-- the brick of a node after a history
abbrev pub brick_after : Settings → List Event → Node → Brick
brick_after settings history n =
    brick settings.depth (sample settings history) (levels settings history) n
