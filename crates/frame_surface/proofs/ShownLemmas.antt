-- The lists of a leaf's mesh show the leaf's triangles, for `scan_node`.
--
-- Each index is one of a key, whose position stands at the same index (`read-corners`, `shown-corners`), and all
-- positions lie in the leaf, and so in the world (`near-positions`).
use Rattle.std.proofs.Common.{◌≡◌, ℕ, ◌<◌, List, [], ◌∷◌, length, get_or, map, inl, inr, refl, sym, ap, ◌∙◌, subst, arith}
use Rattle.std.specs.Prelude.{All}
use Rattle.std.proofs.Math.ListN as list_n
use Rattle.std.proofs.lemmas.Bool.{cases_lt}
use Rattle.std.proofs.lemmas.List.{get_or-map, get_or_past}
use Rattle.std.proofs.lemmas.List.Elements.{All-get_or, All-head, All-map, All-nil, All-tail, All-weaker}
use Rattle.lattice.proofs.SizeLemmas.{end_inside, side_most}
use Rattle.lattice.specs.declared.key.Key.{Key}
use Rattle.lattice.specs.declared.node.Node.{Node}
use Rattle.lattice.specs.declared.point.Axis.TheVariants.{X}
use Rattle.lattice.specs.declared.point.Pos.{Pos}
use Rattle.lattice.specs.declared.settings.Settings.{Settings}
use Rattle.lattice.specs.Node.{IsNode}
use Rattle.lattice.specs.Settings.{IsDepth}
use Rattle.cell_laws.specs.Laws.{KeysAreTested}
use Rattle.terrain.specs.declared.event.Event.{Event}
use Rattle.terrain.specs.Blocks.{keys_of}
use Rattle.terrain.specs.History.{sample}
use Rattle.terrain.specs.Levels.{IsBalanced, IsLeaf, levels}
use Rattle.block_mesh.proofs.NetLemmas.{listed-shown}
use Rattle.block_mesh.specs.Mesh.{IsMesh, ShowsMesh}
use Rattle.terrain.specs.MeshLists.{MeshLists}
use Rattle.block_mesh.specs.Nets.{listed_key}
use Rattle.level_laws.proofs.LeafLemmas.{leaf_test}
use Rattle.snapshots.specs.Frame.{mesh_after}
use Rattle.vertex_places.specs.Moves.{FinePointsStay}
use Rattle.frame_surface.proofs.SurfaceLemmas.{keys-lie, place_of, surface-leaf, triangles}
use Rattle.frame_surface.specs.Scan.{ShowsSurface, origin}
use Rattle.frame_surface.specs.Surface.{LiesIn, surface_after}
use Rattle.frame_surface.specs.Turns.{IsSmallPos}

-- positions at indices of keys are the keys' places
read-corners : (f : Key → Pos) (keys : List Key) (positions : List Pos) (t : List ℕ)
    → positions ≡ map f keys → All (λ place. place < length keys) t
    → map f (map (listed_key keys) t) ≡ map (λ place. get_or positions place origin) t
read-corners f keys positions [] are all = refl
read-corners f keys positions (place ∷ t) are all =
    let inside = All-head (λ p. p < length keys) place t all in
    let one : f (listed_key keys place) ≡ get_or positions place origin =
    sym (ap (λ ps. get_or ps place origin) are
    ∙ get_or-map f keys place
    (record { level = 0; at = record { z = 0; y = 0; x = 0 }; axis = X }) origin inside) in
    let rest = read-corners f keys positions t are (All-tail (λ p. p < length keys) place t all) in
    λ i. one i ∷ rest i

-- what lies in a node of a world is in the world
near-node : (depth : ℕ) (n : Node) (p : Pos) → IsDepth depth → IsNode depth n → LiesIn n p
    → IsSmallPos p
near-node depth n p allowed node h =
    let most = side_most depth allowed in
    record {
      x = omega (arith, h.x_end, end_inside depth n.level n.i node.level node.i, most);
      y = omega (arith, h.y_end, end_inside depth n.level n.j node.level node.j, most);
      z = omega (arith, h.z_end, end_inside depth n.level n.k node.level node.k, most);
    }

module _ (tells : KeysAreTested) (stay : FinePointsStay) (rules : Settings) (history : List Event)
    (n : Node) (allowed : IsDepth rules.depth)
    (balanced : IsBalanced rules.depth (levels rules history))
    (leaf : IsLeaf rules.depth (levels rules history) n) (lists : MeshLists)
    (shows : ShowsMesh lists (mesh_after rules history n)) (is : IsMesh lists) where
  -- all positions are in the world
  near-positions : All IsSmallPos lists.positions
  near-positions =
      let keys = keys_of (triangles rules history n) in
      let f = place_of rules history n in
      let all = keys-lie stay rules.depth (sample rules history) (levels rules history) n balanced
      leaf in
      subst (All IsSmallPos) (sym shows.positions)
      (All-map IsSmallPos f keys (All-weaker (λ key. LiesIn n (f key)) (λ key. IsSmallPos (f key))
      (λ key lies. near-node rules.depth n (f key) allowed leaf.node lies) keys all))

  -- each triangle is the one of its number
  shown-corners : (i : ℕ) → surface_after rules history n i
      ≡ map (λ place. get_or lists.positions place origin) (get_or lists.triangles i [])
  shown-corners i =
      let f = place_of rules history n in
      let lk : List ℕ → List Key = map (listed_key lists.keys) in
      let read = listed-shown tells lists (triangles rules history n) shows.keys shows.triangles in
      let t : List ℕ = get_or lists.triangles i [] in
      let inside : All (λ place. place < length lists.keys) t =
      elim (cases_lt i (length lists.triangles)) [
        | inl within ↦
            All-get_or (All (λ place. place < length lists.keys)) lists.triangles i [] within
            is.places
        | inr past ↦
            subst (All (λ place. place < length lists.keys))
            (sym (get_or_past lists.triangles i [] past))
            (All-nil (λ place. place < length lists.keys))
      ] in
      surface-leaf rules history n ((leaf_test rules.depth (levels rules history) n).1 leaf) i
      ∙ ap (λ ts. map f (get_or ts i [])) (sym read)
      ∙ ap (map f) (list_n.get_or-map lk lists.triangles i [])
      ∙ read-corners f lists.keys lists.positions t
      (shows.positions ∙ ap (map f) (sym shows.keys)) inside

  -- so the lists show the leaf's triangles
  pub shows-surface : ShowsSurface (surface_after rules history) n lists
  shows-surface = record { corners = shown-corners; near = near-positions }
