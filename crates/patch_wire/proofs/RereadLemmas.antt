-- What was written is read again, whatever comes behind it: heads (`head-reread`), events, gone nodes, vertices and
-- triangles, each as an item of a list (`items-reread`), blocks, and whole patches (`patch-reread`), of which
-- `CanBeRead` says what a replica's world asks.
use Rattle.std.proofs.Common.{◌≡◌, ℕ, ◌+◌, ◌^◌, ◌<◌, Bool, true, List, [], ◌∷◌, ◌++◌, length, map, get_or, All, Result, Ok, Err, refl, sym, ap, subst, ◌∙◌, arith, append-nil, append_assoc}
use Rattle.std.specs.Prelude.{◌&&◌, ◌==◌, cond, nat_le, nat_lt, not}
use Rattle.std.specs.List.{AllPairs, flat_map, list_all, zip}
use Rattle.std.specs.Option.{is_some}
use Rattle.std.proofs.lemmas.Bool.{and_from, eq-eqb, le-leb, lt-ltb}
use Rattle.std.proofs.lemmas.List.{length-append}
use Rattle.std.proofs.lemmas.List.Concat.{flat_map-cons}
use Rattle.std.proofs.lemmas.List.Sums.{list_all-from_AllPass}
use Rattle.std.proofs.lemmas.Slice.Zip.{firsts-zip, get_or-zip, length-zip, seconds-zip}
use Rattle.std.proofs.Math.Seq.{get_or-append_seam}
use Rattle.std.proofs.lemmas.List.{map-append}
use Rattle.lattice.specs.declared.key.Key.{Key}
use Rattle.lattice.specs.declared.node.Node.{Node}
use Rattle.lattice.specs.declared.point.Pos.{Pos}
use Rattle.lattice.specs.declared.settings.Settings.{Settings}
use Rattle.lattice.specs.declared.settings.TheConstants.{MAX_DEPTH, MAX_REACH}
use Rattle.lattice.specs.Key.{IsKey}
use Rattle.lattice.specs.Node.{IsNode, is_node, nodes}
use Rattle.lattice.specs.Orders.{NodeIsBefore}
use Rattle.lattice.specs.Settings.{IsDepth, IsSettings}
use Rattle.lattice.proofs.SizeLemmas.{side_most}
use Rattle.lattice.proofs.TestLemmas.{node_test}
use Rattle.terrain.specs.declared.event.Event.{Event}
use Rattle.terrain.specs.declared.brush.Brush.TheVariants.{Cuboid, Ball, Ground, Smooth}
use Rattle.terrain.specs.declared.event.Event.TheVariants.{Edit, Camera, Away, Undo}
use Rattle.terrain.specs.declared.event.TheConstants.{MAX_EVENTS}
use Rattle.terrain.specs.History.{IsLawfulEvent}
use Rattle.terrain.specs.MeshLists.{MeshLists}
use Rattle.replicas.specs.declared.fault.WireFault.{WireFault}
use Rattle.replicas.specs.declared.fault.WireFault.TheVariants.{BadBase, BadCount, BadEvent, BadNode, BadTriangle, BadVertex}
use Rattle.replicas.specs.Fits.{FitsPosition, FitsTriangle}
use Rattle.replicas.specs.Grammar.{WireBlock, WirePatch, block_bytes, counts_bytes, event_bytes, event_fields, event_tag, four, head_bytes, node_bytes, patch_bytes, patch_tag, point_bytes, triangle_bytes, two, vertex_bytes}
use Rattle.patch_wire.specs.Puttable.{IsTaken}
use Rattle.replicas.specs.Worlds.{IsOfWorld, IsPosition}
use Rattle.replicas.specs.Reading.{◌>>=◌, Counts, Reading, ReplicaWorld, Whole, allowed, allowed_some, base_at, block_at, block_node_at, block_of, edits_of, event_at, event_count_at, event_fields_at, event_size, event_tag_at, field, four_at, from_blocks, from_events, from_gone, from_triangles, from_vertices, gone_at, head_at, is_behind, is_key, is_lawful, is_position, items, judge_base, judge_block_node, judge_event, judge_event_count, judge_event_tag, judge_gone, judge_head, judge_length, judge_node_count, judge_tag, judge_triangle, judge_vertex, lacks_edit, last_node, length_at, node_count_at, patch_at, tag_at, triangle_at, vertex_at}
use Rattle.patch_wire.proofs.FitLemmas.{event_fits, key_fits, node_fits}
use Rattle.replicas.proofs.SpellLemmas.{event_again, event_length, four_again, node_again, three-is, triangle_again, vertex_again}
use Rattle.replicas.proofs.StageLemmas.{field-ok, items-more, items-none}
use Rattle.replicas.proofs.TestFactLemmas.{behind_test, key_test, lacks_none, lawful_test, position_test}

-- ---- in general
-- a value is allowed where its test passes
allowed-on : {A : Type 0} (test : Bool) (fault : WireFault) (x : A) → test ≡ true
    → allowed test fault x ≡ Ok x
allowed-on test fault x on = ap (λ b. cond b (Ok x) (Err fault)) on

-- reading goes on behind a value
goes-on : {A B : Type 0} (r : Reading A) (f : A → List ℕ → Reading B) (x : A) (rest : List ℕ)
    → r ≡ Whole x rest → (r >>= f) ≡ f x rest
goes-on r f x rest is = ap (λ q. q >>= f) is

-- what holds of all holds of one among others
one_of : {A : Type 0} (P : A → Type 0) (all before after : List A) (x : A) → All P all
    → all ≡ before ++ x ∷ after → P x
one_of P all before after x holds parts =
    let inside : length before < length all =
    omega (arith, ap length parts, length-append before (x ∷ after)) in
    subst P (ap (λ l. get_or l (length before) x) parts ∙ get_or-append_seam before x after x)
    (holds (length before) x inside)

-- items that are each read again
module _ {A : Type 0} (item : List A → List ℕ → Reading A) (spelling : A → List ℕ) (all : List A)
    (each : (before after : List A) (x : A) (more : List ℕ) → all ≡ before ++ x ∷ after
    → item before (spelling x ++ more) ≡ Whole x more) where
  -- those behind the ones that are read
  items-on : (xs done : List A) (rest : List ℕ) → all ≡ done ++ xs
      → items item (length xs) done (flat_map spelling xs ++ rest) ≡ Whole all rest
  items-on [] done rest parts =
      items-none item 0 done rest refl
      ∙ ap (λ l. Whole l rest) (sym (append-nil done) ∙ sym parts)
  items-on (x ∷ xs) done rest parts =
      let behind = flat_map spelling xs ++ rest in
      ap (items item (length (x ∷ xs)) done)
      (ap (λ t. t ++ rest) (flat_map-cons spelling x xs)
      ∙ append_assoc (spelling x) (flat_map spelling xs) rest)
      ∙ items-more item (length (x ∷ xs)) done (spelling x ++ behind) (length xs) x behind refl
      (each done xs x behind parts)
      ∙ items-on xs (done ++ x ∷ []) rest (parts ∙ sym (append_assoc done (x ∷ []) xs))

  -- all of them
  items-reread : (rest : List ℕ)
      → items item (length all) [] (flat_map spelling all ++ rest) ≡ Whole all rest
  items-reread rest = items-on all [] rest refl

-- a count or a base in four bytes
four-reread : (judge : List ℕ → Result ℕ WireFault) (n : ℕ) (more : List ℕ)
    → judge (four n) ≡ Ok n → field 4 judge (four n ++ more) ≡ Whole n more
unfolding four
four-reread judge n more is = field-ok 4 judge (four n) more n refl is

-- ---- the head
pub head-reread : (settings : Settings) (more : List ℕ) → IsSettings settings
    → head_at (head_bytes settings ++ more) ≡ Whole settings more
unfolding head_bytes
head-reread settings more is =
    field-ok 10 judge_head (head_bytes settings) more settings refl
    (allowed-on _ _ settings (and_from _ _ (and_from _ _ refl
    (le-leb settings.depth MAX_DEPTH is.depth)) (le-leb settings.reach MAX_REACH is.reach)))

-- ---- events
-- the tag
tag_test : (e : Event) → judge_event_tag (event_tag e ∷ []) ≡ Ok (event_tag e)
tag_test (Edit (Cuboid mode lo hi)) = refl
tag_test (Edit (Ball mode at r)) = refl
tag_test (Edit (Ground mode h)) = refl
tag_test (Edit (Smooth lo hi)) = refl
tag_test (Camera view at) = refl
tag_test (Away view) = refl
tag_test Undo = refl

-- the tag and the fields
event-reread : (w : ReplicaWorld) (before : List Event) (e : Event) (more : List ℕ)
    → IsDepth w.settings.depth → IsLawfulEvent w.settings.depth e
    → (e ≡ Undo → 0 < edits_of before (edits_of w.events 0))
    → event_at w before (event_bytes e ++ more) ≡ Whole e more
event-reread w before e more deep lawful undoes =
    let edits = edits_of before (edits_of w.events 0) in
    let judge = judge_event w.settings.depth edits (event_tag e) in
    let is : judge (event_fields e) ≡ Ok e =
    ap (allowed_some (λ x. is_lawful w.settings.depth x && not (lacks_edit x edits)) BadEvent)
    (event_again e (event_fits w.settings.depth e deep lawful))
    ∙ allowed-on _ BadEvent e (and_from _ _ (lawful_test w.settings.depth e lawful)
    (lacks_none e edits undoes)) in
    goes-on (event_tag_at (event_tag e ∷ (event_fields e ++ more)))
    (λ tag rest. event_fields_at w before tag rest) (event_tag e) (event_fields e ++ more)
    (field-ok 1 judge_event_tag (event_tag e ∷ []) (event_fields e ++ more) (event_tag e) refl
    (tag_test e))
    ∙ field-ok (event_size (event_tag e)) judge (event_fields e) more e (event_length e) is

-- ---- gone nodes
gone-reread : (w : ReplicaWorld) (before : List Node) (n : Node) (more : List ℕ)
    → IsDepth w.settings.depth → IsNode w.settings.depth n
    → is_behind (last_node before) n ≡ true → is_some (w.block n) ≡ true
    → gone_at w before (node_bytes n ++ more) ≡ Whole n more
unfolding node_bytes two
gone-reread w before n more deep is behind held =
    field-ok 7 (judge_gone w (last_node before)) (node_bytes n) more n refl
    (ap (λ m. allowed (is_node w.settings.depth m && is_behind (last_node before) m
    && is_some (w.block m)) BadNode m) (node_again n (node_fits w.settings.depth n deep is))
    ∙ allowed-on _ BadNode n (and_from _ _ (and_from _ _ ((node_test w.settings.depth n).1 is)
    behind) held))

-- ---- blocks
-- the node
block_node-reread : (w : ReplicaWorld) (before : List WireBlock) (n : Node) (more : List ℕ)
    → IsDepth w.settings.depth → IsNode w.settings.depth n
    → is_behind (last_node (map (λ (b : WireBlock). b.node) before)) n ≡ true
    → block_node_at w before (node_bytes n ++ more) ≡ Whole n more
unfolding node_bytes two
block_node-reread w before n more deep is behind =
    let last = last_node (map (λ (b : WireBlock). b.node) before) in
    field-ok 7 (judge_block_node w.settings.depth last) (node_bytes n) more n refl
    (ap (λ m. allowed (is_node w.settings.depth m && is_behind last m) BadNode m)
    (node_again n (node_fits w.settings.depth n deep is))
    ∙ allowed-on _ BadNode n (and_from _ _ ((node_test w.settings.depth n).1 is) behind))

-- a position of a world is small
position_fits : (depth : ℕ) (at : Pos) → IsDepth depth → IsPosition depth at → FitsPosition at
position_fits depth at deep is =
    let side = side_most depth deep in
    record {
      x = omega (arith, is.x, side);
      y = omega (arith, is.y, side);
      z = omega (arith, is.z, side);
    }

-- a key with its position
vertex-reread : (w : ReplicaWorld) (before : List (Key × Pos)) (v : Key × Pos) (more : List ℕ)
    → IsDepth w.settings.depth → IsKey w.settings.depth v.0 → IsPosition w.settings.depth v.1
    → vertex_at w before (vertex_bytes v ++ more) ≡ Whole v more
unfolding vertex_bytes point_bytes two four
vertex-reread w before v more deep key at =
    let depth = w.settings.depth in
    field-ok 20 (judge_vertex depth) (vertex_bytes v) more v refl
    (ap (allowed_some (λ (u : Key × Pos). is_key depth u.0 && is_position depth u.1) BadVertex)
    (vertex_again v (key_fits depth v.0 deep key) (position_fits depth v.1 deep at))
    ∙ allowed-on _ BadVertex v (and_from _ _ (key_test depth v.0 key)
    (position_test depth v.1 at)))

-- a triangle of a block with so many keys: three places of keys
record IsTriangle (keys : ℕ) (places : List ℕ) : Type 0 where
  three : length places ≡ 3
  each : All (λ place. place < keys) places

-- a triangle has twelve bytes
triangle_long : (places : List ℕ) → length places ≡ 3 → length (triangle_bytes places) ≡ 12
unfolding triangle_bytes four
triangle_long places three = ap (λ ps. length (triangle_bytes ps)) (three-is places three)

-- a triangle
triangle-reread : (keys : ℕ) (before : List (List ℕ)) (places : List ℕ) (more : List ℕ)
    → keys < 2 ^ 32 → IsTriangle keys places
    → triangle_at keys before (triangle_bytes places ++ more) ≡ Whole places more
triangle-reread keys before places more few is =
    let fits : FitsTriangle places = record {
      three = is.three;
      each = λ k d inside. let low = is.each k d inside in omega (arith, low, few);
    } in
    field-ok 12 (judge_triangle keys) (triangle_bytes places) more places
    (triangle_long places is.three)
    (ap (λ ps. allowed (list_all (λ place. nat_lt place keys) ps) BadTriangle ps)
    (triangle_again places fits)
    ∙ allowed-on _ BadTriangle places (list_all-from_AllPass (λ place. nat_lt place keys) places
    (λ k d inside. lt-ltb _ keys (is.each k d inside))))

-- the lists of a block as a reader takes them: each key has a position, there are few enough keys and triangles, and
-- these are of the keys
pub record IsShaped (mesh : MeshLists) : Type 0 where
  pub paired : length mesh.positions ≡ length mesh.keys
  pub few_keys : length mesh.keys < 2 ^ 32
  pub few_triangles : length mesh.triangles < 2 ^ 32
  pub three : All (λ places. length places ≡ 3) mesh.triangles
  pub places : All (All (λ place. place < length mesh.keys)) mesh.triangles

-- a block by its parts, behind each other
block_parts : (b : WireBlock) (more : List ℕ)
    → block_bytes b ++ more ≡ node_bytes b.node ++ (four (length b.mesh.keys)
    ++ (four (length b.mesh.triangles)
    ++ (flat_map vertex_bytes (zip b.mesh.keys b.mesh.positions)
    ++ (flat_map triangle_bytes b.mesh.triangles ++ more))))
unfolding block_bytes
block_parts b more =
    let n = node_bytes b.node in
    let k = four (length b.mesh.keys) in
    let t = four (length b.mesh.triangles) in
    let v = flat_map vertex_bytes (zip b.mesh.keys b.mesh.positions) in
    let l = flat_map triangle_bytes b.mesh.triangles in
    append_assoc (((n ++ k) ++ t) ++ v) l more
    ∙ append_assoc ((n ++ k) ++ t) v (l ++ more)
    ∙ append_assoc (n ++ k) t (v ++ (l ++ more))
    ∙ append_assoc n k (t ++ (v ++ (l ++ more)))

-- a block that is put in a world
module _ (w : ReplicaWorld) (b : WireBlock) (deep : IsDepth w.settings.depth)
    (of : IsOfWorld w.settings.depth b) (shaped : IsShaped b.mesh) where
  -- its triangles
  triangles-reread : (more : List ℕ)
      → from_triangles b.node (length b.mesh.keys) (zip b.mesh.keys b.mesh.positions)
      (length b.mesh.triangles) [] (flat_map triangle_bytes b.mesh.triangles ++ more)
      ≡ Whole b more
  triangles-reread more =
      let keys = b.mesh.keys in
      let positions = b.mesh.positions in
      goes-on _ (λ list rest. Whole (block_of b.node (zip keys positions) list) rest)
      b.mesh.triangles more
      (items-reread (triangle_at (length keys)) triangle_bytes b.mesh.triangles
      (λ before after places rest parts. triangle-reread (length keys) before places rest
      shaped.few_keys (record {
        three = one_of (λ ps. length ps ≡ 3) b.mesh.triangles before after places shaped.three
            parts;
        each = one_of (All (λ place. place < length keys)) b.mesh.triangles before after places
            shaped.places parts;
      })) more)
      ∙ (λ i. Whole (record {
        node = b.node;
        mesh = record {
          keys = firsts-zip keys positions shaped.paired i;
          positions = seconds-zip keys positions shaped.paired i;
          triangles = b.mesh.triangles;
        };
      }) more)

  -- one of its keys with its position
  pair_is : (k : ℕ) (d : Key × Pos) → k < length (zip b.mesh.keys b.mesh.positions)
      → IsKey w.settings.depth (get_or (zip b.mesh.keys b.mesh.positions) k d).0
      × IsPosition w.settings.depth (get_or (zip b.mesh.keys b.mesh.positions) k d).1
  pair_is k d inside =
      let keys = b.mesh.keys in
      let positions = b.mesh.positions in
      let long = length-zip keys positions in
      let key : k < length keys = omega (arith, long, inside) in
      let position : k < length positions = omega (arith, key, shaped.paired) in
      subst (λ (v : Key × Pos). IsKey w.settings.depth v.0 × IsPosition w.settings.depth v.1)
      (sym (get_or-zip keys positions k d key position))
      (of.keys k d.0 key, of.positions k d.1 position)

  -- its vertices and its triangles
  vertices-reread : (more : List ℕ)
      → from_vertices w b.node (length b.mesh.keys) (length b.mesh.triangles)
      (length b.mesh.keys) []
      (flat_map vertex_bytes (zip b.mesh.keys b.mesh.positions)
      ++ (flat_map triangle_bytes b.mesh.triangles ++ more))
      ≡ Whole b more
  vertices-reread more =
      let pairs = zip b.mesh.keys b.mesh.positions in
      let bytes = flat_map vertex_bytes pairs
      ++ (flat_map triangle_bytes b.mesh.triangles ++ more) in
      let long : length b.mesh.keys ≡ length pairs =
      omega (arith, length-zip b.mesh.keys b.mesh.positions, shaped.paired) in
      let next : List (Key × Pos) → List ℕ → Reading WireBlock = λ list rest.
      from_triangles b.node (length b.mesh.keys) list (length b.mesh.triangles) [] rest in
      ap (λ n. items (vertex_at w) n [] bytes >>= next) long
      ∙ goes-on (items (vertex_at w) (length pairs) [] bytes) next pairs
      (flat_map triangle_bytes b.mesh.triangles ++ more)
      (items-reread (vertex_at w) vertex_bytes pairs
      (λ before after v rest parts.
      let is = one_of (λ (u : Key × Pos). IsKey w.settings.depth u.0
      × IsPosition w.settings.depth u.1) pairs before after v pair_is parts in
      vertex-reread w before v rest deep is.0 is.1)
      (flat_map triangle_bytes b.mesh.triangles ++ more))
      ∙ triangles-reread more

  -- the whole block
  block-reread : (before : List WireBlock) (more : List ℕ)
      → is_behind (last_node (map (λ (b : WireBlock). b.node) before)) b.node ≡ true
      → block_at w before (block_bytes b ++ more) ≡ Whole b more
  unfolding block_at
  block-reread before more behind =
      let k = length b.mesh.keys in
      let t = length b.mesh.triangles in
      let rest4 = flat_map vertex_bytes (zip b.mesh.keys b.mesh.positions)
      ++ (flat_map triangle_bytes b.mesh.triangles ++ more) in
      let rest3 = four t ++ rest4 in
      let rest2 = four k ++ rest3 in
      let then3 : Node → ℕ → ℕ → List ℕ → Reading WireBlock = λ n keys triangles rest.
      from_vertices w n keys triangles keys [] rest in
      let then2 : Node → ℕ → List ℕ → Reading WireBlock = λ n keys rest.
      length_at rest >>= λ triangles rest. then3 n keys triangles rest in
      let then1 : Node → List ℕ → Reading WireBlock = λ n rest.
      length_at rest >>= λ keys rest. then2 n keys rest in
      ap (block_at w before) (block_parts b more)
      ∙ goes-on (block_node_at w before (node_bytes b.node ++ rest2)) then1 b.node rest2
      (block_node-reread w before b.node rest2 deep of.node behind)
      ∙ goes-on (length_at (four k ++ rest3)) (then2 b.node) k rest3
      (four-reread judge_length k rest3 (ap Ok (four_again k shaped.few_keys)))
      ∙ goes-on (length_at (four t ++ rest4)) (then3 b.node k) t rest4
      (four-reread judge_length t rest4 (ap Ok (four_again t shaped.few_triangles)))
      ∙ vertices-reread more

-- ---- patches
-- a patch that a replica with a world reads: a wire takes it, it begins behind the world's events, each undo has an
-- edit in force before it, the gone nodes are in order and have blocks, and the nodes of its blocks are in order
pub record CanBeRead (w : ReplicaWorld) (p : WirePatch) : Type 0 where
  pub depth : IsDepth w.settings.depth
  pub taken : IsTaken w.settings.depth p
  pub base : p.base ≡ length w.events
  pub undoes : (before after : List Event) → p.events ≡ before ++ Undo ∷ after
      → 0 < edits_of before (edits_of w.events 0)
  pub gone_rise : AllPairs NodeIsBefore p.gone
  pub held : All (λ n. is_some (w.block n) ≡ true) p.gone
  pub blocks_rise : AllPairs NodeIsBefore (map (λ (b : WireBlock). b.node) p.blocks)
  pub shaped : All (λ (b : WireBlock). IsShaped b.mesh) p.blocks

-- a patch by its parts, behind each other
patch_parts : (p : WirePatch) (more : List ℕ)
    → patch_bytes p ++ more ≡ (patch_tag ∷ []) ++ (four p.base ++ (four (length p.events)
    ++ (four (length p.gone) ++ (four (length p.blocks) ++ (flat_map event_bytes p.events
    ++ (flat_map node_bytes p.gone ++ (flat_map block_bytes p.blocks ++ more)))))))
unfolding patch_bytes counts_bytes
patch_parts p more =
    let tag : List ℕ = patch_tag ∷ [] in
    let base = four p.base in
    let ne = four (length p.events) in
    let ng = four (length p.gone) in
    let nb = four (length p.blocks) in
    let e = flat_map event_bytes p.events in
    let g = flat_map node_bytes p.gone in
    let b = flat_map block_bytes p.blocks in
    let head = (((tag ++ base) ++ ne) ++ ng) ++ nb in
    append_assoc ((head ++ e) ++ g) b more
    ∙ append_assoc (head ++ e) g (b ++ more)
    ∙ append_assoc head e (g ++ (b ++ more))
    ∙ append_assoc (((tag ++ base) ++ ne) ++ ng) nb (e ++ (g ++ (b ++ more)))
    ∙ append_assoc ((tag ++ base) ++ ne) ng (nb ++ (e ++ (g ++ (b ++ more))))
    ∙ append_assoc (tag ++ base) ne (ng ++ (nb ++ (e ++ (g ++ (b ++ more)))))
    ∙ append_assoc tag base (ne ++ (ng ++ (nb ++ (e ++ (g ++ (b ++ more))))))

module _ (w : ReplicaWorld) (p : WirePatch) (is : CanBeRead w p)
    (small : length (nodes w.settings.depth) < 2 ^ 32) where
  -- its blocks
  blocks-reread : (more : List ℕ)
      → from_blocks w p.base p.events p.gone (length p.blocks) []
      (flat_map block_bytes p.blocks ++ more) ≡ Whole p more
  blocks-reread more =
      goes-on _ (λ list rest. Whole (record {
        base = p.base;
        events = p.events;
        gone = p.gone;
        blocks = list;
      }) rest) p.blocks more
      (items-reread (block_at w) block_bytes p.blocks
      (λ before after b rest parts.
      let node_of : WireBlock → Node = λ b. b.node in
      block-reread w b is.depth
      (one_of (IsOfWorld w.settings.depth) p.blocks before after b is.taken.blocks parts)
      (one_of (λ (b : WireBlock). IsShaped b.mesh) p.blocks before after b is.shaped parts)
      before rest
      (behind_test (map node_of p.blocks) (map node_of before) (map node_of after) b.node
      is.blocks_rise (ap (map node_of) parts ∙ map-append node_of before (b ∷ after)))) more)

  -- its gone nodes and its blocks
  gone_nodes-reread : (counts : Counts) (more : List ℕ) → counts.blocks ≡ length p.blocks
      → from_gone w p.base counts p.events (length p.gone) []
      (flat_map node_bytes p.gone ++ (flat_map block_bytes p.blocks ++ more)) ≡ Whole p more
  gone_nodes-reread counts more count =
      let rest1 = flat_map block_bytes p.blocks ++ more in
      goes-on _ (λ list rest. from_blocks w p.base p.events list counts.blocks [] rest) p.gone rest1
      (items-reread (gone_at w) node_bytes p.gone
      (λ before after n rest parts. gone-reread w before n rest is.depth
      (one_of (IsNode w.settings.depth) p.gone before after n is.taken.gone parts)
      (behind_test p.gone before after n is.gone_rise parts)
      (one_of (λ n. is_some (w.block n) ≡ true) p.gone before after n is.held parts)) rest1)
      ∙ ap (λ k. from_blocks w p.base p.events p.gone k [] rest1) count
      ∙ blocks-reread more

  -- its events and what is behind them
  events-reread : (counts : Counts) (more : List ℕ) → counts.gone ≡ length p.gone
      → counts.blocks ≡ length p.blocks
      → from_events w p.base counts (length p.events) [] (flat_map event_bytes p.events
      ++ (flat_map node_bytes p.gone ++ (flat_map block_bytes p.blocks ++ more))) ≡ Whole p more
  events-reread counts more gone blocks =
      let rest1 = flat_map node_bytes p.gone ++ (flat_map block_bytes p.blocks ++ more) in
      goes-on _ (λ list rest. from_gone w p.base counts list counts.gone [] rest) p.events rest1
      (items-reread (event_at w) event_bytes p.events
      (λ before after e rest parts. event-reread w before e rest is.depth
      (one_of (IsLawfulEvent w.settings.depth) p.events before after e is.taken.events parts)
      (λ undo. is.undoes before after (parts ∙ ap (λ x. before ++ x ∷ after) undo))) rest1)
      ∙ ap (λ k. from_gone w p.base counts p.events k [] rest1) gone
      ∙ gone_nodes-reread counts more blocks

  -- the whole patch
  pub patch-reread : (more : List ℕ) → patch_at w (patch_bytes p ++ more) ≡ Whole p more
  unfolding patch_at
  patch-reread more =
      let ne = length p.events in
      let ng = length p.gone in
      let nb = length p.blocks in
      let depth = w.settings.depth in
      let rest5 = flat_map event_bytes p.events
      ++ (flat_map node_bytes p.gone ++ (flat_map block_bytes p.blocks ++ more)) in
      let rest4 = four nb ++ rest5 in
      let rest3 = four ng ++ rest4 in
      let rest2 = four ne ++ rest3 in
      let rest1 = four p.base ++ rest2 in
      let then5 : ℕ → ℕ → ℕ → ℕ → List ℕ → Reading WirePatch = λ base events gone blocks rest.
      from_events w base (record { events = events; gone = gone; blocks = blocks }) events [] rest
      in
      let then4 : ℕ → ℕ → ℕ → List ℕ → Reading WirePatch = λ base events gone rest.
      node_count_at w rest >>= λ blocks rest. then5 base events gone blocks rest in
      let then3 : ℕ → ℕ → List ℕ → Reading WirePatch = λ base events rest.
      node_count_at w rest >>= λ gone rest. then4 base events gone rest in
      let then2 : ℕ → List ℕ → Reading WirePatch = λ base rest.
      event_count_at w rest >>= λ events rest. then3 base events rest in
      let then1 : ℕ → List ℕ → Reading WirePatch = λ tag rest.
      base_at w rest >>= λ base rest. then2 base rest in
      let base : p.base ≡ length w.events = is.base in
      let few_events = is.taken.few_events in
      let base_again : four_at 0 (four p.base) ≡ p.base =
      four_again p.base (omega (arith, few_events)) in
      let events_again : four_at 0 (four ne) ≡ ne = four_again ne (omega (arith, few_events)) in
      let gone_again : four_at 0 (four ng) ≡ ng =
      four_again ng (omega (arith, is.taken.few_gone, small)) in
      let blocks_again : four_at 0 (four nb) ≡ nb =
      four_again nb (omega (arith, is.taken.few_blocks, small)) in
      ap (patch_at w) (patch_parts p more)
      ∙ goes-on (tag_at ((patch_tag ∷ []) ++ rest1)) then1 patch_tag rest1
      (field-ok 1 judge_tag (patch_tag ∷ []) rest1 patch_tag refl refl)
      ∙ goes-on (base_at w rest1) then2 p.base rest2
      (four-reread (judge_base (length w.events)) p.base rest2
      (ap (λ n. allowed (n == length w.events) BadBase n) base_again
      ∙ allowed-on _ BadBase p.base (eq-eqb p.base (length w.events) base)))
      ∙ goes-on (event_count_at w rest2) (then3 p.base) ne rest3
      (four-reread (judge_event_count (length w.events)) ne rest3
      (ap (λ n. allowed (nat_le (length w.events + n) MAX_EVENTS) BadCount n) events_again
      ∙ allowed-on _ BadCount ne (le-leb (length w.events + ne) MAX_EVENTS
      (omega (arith, few_events, base)))))
      ∙ goes-on (node_count_at w rest3) (then4 p.base ne) ng rest4
      (four-reread (judge_node_count depth) ng rest4
      (ap (λ n. allowed (nat_le n (length (nodes depth))) BadCount n) gone_again
      ∙ allowed-on _ BadCount ng (le-leb ng (length (nodes depth)) is.taken.few_gone)))
      ∙ goes-on (node_count_at w rest4) (then5 p.base ne ng) nb rest5
      (four-reread (judge_node_count depth) nb rest5
      (ap (λ n. allowed (nat_le n (length (nodes depth))) BadCount n) blocks_again
      ∙ allowed-on _ BadCount nb (le-leb nb (length (nodes depth)) is.taken.few_blocks)))
      ∙ events-reread (record { events = ne; gone = ng; blocks = nb }) more refl refl
