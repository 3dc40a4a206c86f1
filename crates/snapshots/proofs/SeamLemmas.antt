-- The mesh of a history is seamless.
use Rattle.std.proofs.Common.{◌≡◌, ℕ, List, All, map, pos, ◌-ℤ◌, refl, arith}
use Rattle.std.proofs.lemmas.Int.{ints}
use Rattle.std.proofs.lemmas.List.Elements.{All-map}
use Rattle.lattice.specs.declared.key.Key.{Key}
use Rattle.lattice.specs.declared.node.Node.{Node}
use Rattle.lattice.specs.declared.point.Point.{Point}
use Rattle.lattice.specs.declared.settings.Settings.{Settings}
use Rattle.terrain.specs.declared.event.Event.{Event}
use Rattle.terrain.specs.Blocks.{Mesh, LieOnBorder, border, frame, frame_edges, mesh, net, place}
use Rattle.terrain.specs.History.{sample}
use Rattle.terrain.specs.Levels.{IsBalanced, LevelMap, leaves, levels, split, viewpoints}
use Rattle.terrain.specs.Samples.{Field}
use Rattle.snapshots.specs.Seamless.{IsSeamless}

-- numbers whose difference is zero are equal
equal-from : (x y : ℕ) → pos x -ℤ pos y ≡ pos 0 → x ≡ y
equal-from x y none = omega (arith, ints)

-- each block has its keys at their places
placed : (depth : ℕ) (s : Field) (m : LevelMap) (nodes : List Node)
    → All (λ (block : Mesh). block.positions ≡ map (place depth s m) block.keys)
    (map (mesh depth s m) nodes)
placed depth s m nodes =
    All-map (λ (block : Mesh). block.positions ≡ map (place depth s m) block.keys)
    (mesh depth s m) nodes (λ k d low. refl)

-- by the law on level maps and the law on frames
pub seamless-from : ((settings : Settings) (points : List Point)
    → IsBalanced settings.depth (split settings points))
    → ((s : Field) (depth : ℕ) (m : LevelMap) → IsBalanced depth m
    → (a b : Key) → net (frame_edges (frame depth s m)) a b ≡ border depth s m a b)
    → ((s : Field) (depth : ℕ) (m : LevelMap) → IsBalanced depth m
    → (a b : Key) → (LieOnBorder depth a b → ⊥)
    → net (frame_edges (frame depth s m)) a b ≡ pos 0)
    → (rules : Settings) (history : List Event) → IsSeamless rules history
seamless-from balanced pairs inside rules history =
    let depth = rules.depth in
    let s = sample rules history in
    let m = levels rules history in
    let close = balanced rules (viewpoints history) in
    record {
      closed = λ a b off. equal-from _ _ (inside s depth m close a b off);
      on_border = pairs s depth m close;
      position = place depth s m;
      placed = placed depth s m (leaves depth m);
    }
