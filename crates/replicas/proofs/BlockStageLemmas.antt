-- What a draft reads of the fields of a block: its node and its counts, its keys and its triangles, and what it does
-- behind them.
-- Behind the last key the triangles are read, and behind the last triangle the block is whole (`vertices-block`,
-- `triangles-block`): `block_on` is what is read by the counts. Each field then leads to it.
use Rattle.std.proofs.Common.{◌≡◌, ℕ, suc, ◌+◌, ◌-◌, ◌<◌, ◌≤◌, Bool, List, [], ◌∷◌, ◌++◌, length, map, All, Ok, Err, refl, sym, ap, subst, ◌∙◌, arith, inl, inr}
use Rattle.std.specs.Prelude.{cond, nat_lt}
use Rattle.std.specs.List.{zip}
use Rattle.std.proofs.lemmas.Bool.{cases_Bool, le-ltb, ltb-false}
use Rattle.std.proofs.lemmas.List.{length-append}
use Rattle.std.proofs.lemmas.List.Elements.{All-push}
use Rattle.std.proofs.lemmas.Slice.Zip.{firsts-zip, seconds-zip}
use Rattle.lattice.specs.declared.key.Key.{Key}
use Rattle.lattice.specs.declared.node.Node.{Node}
use Rattle.lattice.specs.declared.point.Pos.{Pos}
use Rattle.lattice.specs.Node.{IsNode}
use Rattle.replicas.specs.declared.fault.WireFault.{WireFault}
use Rattle.replicas.specs.declared.stage.Stage.{Stage}
use Rattle.replicas.specs.declared.stage.Stage.TheVariants.{BlockNode, KeyCount, TriangleCount, Vertex, Triangle}
use Rattle.replicas.specs.Drafts.{GoesOn, HasMore, ReadsPart, block_on}
use Rattle.replicas.specs.Grammar.{WireBlock, WirePatch}
use Rattle.replicas.specs.Reading.{◌>>=◌, Reading, ReplicaWorld, Whole, block_at, block_of, from_triangles, from_vertices, items, judge_block_node, judge_length, judge_triangle, judge_vertex, last_node, length_at, triangle_at, vertex_at}
use Rattle.replicas.specs.Stages.{DraftState, HasNoMesh, IsDraft, KeepsAt, behind_block, blocks_on, read_from, read_on, stage_of_blocks, triangles_on, vertices_on}
use Rattle.replicas.proofs.StageLemmas.{at_stage, bind-assoc, blocks-keeps, blocks-settled, field-err, field-ok, items-more, items-none, items-stop, kept, refused, same_nodes, taken}

-- pairs with one pair more
zip-push : (ks : List Key) (ps : List Pos) (k : Key) (p : Pos) → length ps ≡ length ks
    → zip (ks ++ k ∷ []) (ps ++ p ∷ []) ≡ zip ks ps ++ (k, p) ∷ []
zip-push [] [] k p paired = refl
zip-push [] (q ∷ ps) k p paired = absurd (omega (arith, paired))
zip-push (j ∷ ks) [] k p paired = absurd (omega (arith, paired))
zip-push (j ∷ ks) (q ∷ ps) k p paired =
    ap (λ rest. (j, q) ∷ rest) (zip-push ks ps k p (omega (arith, paired)))

-- ---- the rest of a block
module _ (w : ReplicaWorld) (d : DraftState) (rest : List ℕ) where
  -- what is read behind the block
  behind : WireBlock → List ℕ → Reading WirePatch
  behind b more = behind_block w d b more

  -- what is read behind the keys
  behind_keys : List (Key × Pos) → List ℕ → Reading WireBlock
  behind_keys list more = from_triangles d.node d.key_count list d.triangle_count [] more

  -- where keys are still to come, or the triangles from the first on
  pub vertices-block : d.triangles ≡ [] → vertices_on w d rest ≡ block_on w d rest
  unfolding behind behind_keys
  vertices-block none =
      let choose : Bool → Reading WirePatch =
      λ b. cond b (vertices_on w d rest) (triangles_on w d rest) in
      elim (cases_Bool (nat_lt (length d.keys) d.key_count)) [
        | inl on ↦ ap choose (sym on)
        | inr off ↦
            (let left : d.key_count - length d.keys ≡ 0 = omega (arith, ltb-false _ _ off) in
            let all : d.triangle_count ≡ d.triangle_count - 0 = omega arith in
            let pairs = zip d.keys d.positions in
            let tail : ℕ → List (List ℕ) → Reading WirePatch =
            λ n ts. from_triangles d.node d.key_count pairs n ts rest >>= behind in
            ap (λ r. (r >>= behind_keys) >>= behind)
            (items-none (vertex_at w) (d.key_count - length d.keys) pairs rest left)
            ∙ ap (λ n. tail n []) all
            ∙ ap (λ ts. tail (d.triangle_count - length ts) ts) (sym none)
            ∙ ap choose (sym off))
      ]

  -- where all keys have come
  pub triangles-block : length d.keys ≡ d.key_count → triangles_on w d rest ≡ block_on w d rest
  triangles-block all =
      ap (λ b. cond b (vertices_on w d rest) (triangles_on w d rest))
      (sym (le-ltb (length d.keys) d.key_count (omega (arith, all))))

-- ---- the fields of a block
module _ (w : ReplicaWorld) (d : DraftState) (f : List ℕ) (is : IsDraft w d) where
  -- what is read behind the blocks
  behind_blocks : List WireBlock → List ℕ → Reading WirePatch
  behind_blocks list more =
      Whole (record { base = d.base; events = d.events; gone = d.gone; blocks = list }) more

  -- its node
  pub block-node-reads : (n : Node) → d.stage ≡ BlockNode → length f ≡ 7
      → judge_block_node w.settings.depth (last_node (map (λ (b : WireBlock). b.node) d.blocks)) f
      ≡ Ok n → IsNode w.settings.depth n
      → ReadsPart w d f (record d { node = n; stage = KeyCount }) (Ok tt)
  unfolding items block_at behind_blocks
  block-node-reads n at long ok inside =
      let new : DraftState = record d { node = n; stage = KeyCount } in
      let keeps = kept w d BlockNode at is in
      let m = d.counts.blocks - (length d.blocks + 1) in
      let some : d.counts.blocks - length d.blocks ≡ suc m = omega (arith, keeps.0) in
      let left : (b : WireBlock) → m ≡ d.counts.blocks - length (d.blocks ++ b ∷ []) =
      λ b. omega (arith, length-append d.blocks (b ∷ [])) in
      let V : Node → ℕ → ℕ → List ℕ → Reading WireBlock =
      λ x keys triangles more. from_vertices w x keys triangles keys [] more in
      let M : Node → ℕ → List ℕ → Reading WireBlock =
      λ x keys more. length_at more >>= λ triangles last. V x keys triangles last in
      let A : Node → List ℕ → Reading WireBlock =
      λ x more. length_at more >>= λ keys last. M x keys last in
      let B : WireBlock → List ℕ → Reading (List WireBlock) =
      λ b more. items (block_at w) m (d.blocks ++ b ∷ []) more in
      let BK : WireBlock → List ℕ → Reading WirePatch = λ b more. B b more >>= behind_blocks in
      let last = last_node (map (λ (b : WireBlock). b.node) d.blocks) in
      taken w d f is BlockNode new at
      (record { keeps = keeps; node = inside; nodes = is.nodes; edits = is.edits })
      (λ rest. ap (λ k. items (block_at w) k d.blocks (f ++ rest) >>= behind_blocks) some
      ∙ ap (λ r. ((r >>= A) >>= B) >>= behind_blocks)
      (field-ok 7 (judge_block_node w.settings.depth last) f rest n long ok)
      ∙ bind-assoc (A n rest) B behind_blocks
      ∙ bind-assoc (length_at rest) (M n) BK
      ∙ (λ i. length_at rest >>= λ keys more. bind-assoc (length_at more) (V n keys) BK i)
      ∙ (λ i. length_at rest >>= λ keys more. length_at more >>= λ triangles after.
      V n keys triangles after >>= λ b end.
      items (block_at w) (left b i) (d.blocks ++ b ∷ []) end >>= behind_blocks))

  -- or refused
  pub block-node-refused : (fault : WireFault) (new : DraftState) → d.stage ≡ BlockNode
      → length f ≡ 7
      → judge_block_node w.settings.depth (last_node (map (λ (b : WireBlock). b.node) d.blocks)) f
      ≡ Err fault → ReadsPart w d f new (Err fault)
  unfolding items block_at behind_blocks
  block-node-refused fault new at long err =
      let keeps = kept w d BlockNode at is in
      let m = d.counts.blocks - (length d.blocks + 1) in
      let some : d.counts.blocks - length d.blocks ≡ suc m = omega (arith, keeps.0) in
      let A : Node → List ℕ → Reading WireBlock =
      λ x more. length_at more >>= λ keys last. length_at last >>= λ triangles after.
      from_vertices w x keys triangles keys [] after in
      let B : WireBlock → List ℕ → Reading (List WireBlock) =
      λ b more. items (block_at w) m (d.blocks ++ b ∷ []) more in
      let last = last_node (map (λ (b : WireBlock). b.node) d.blocks) in
      refused w d f is BlockNode fault new at
      (λ rest. ap (λ k. items (block_at w) k d.blocks (f ++ rest) >>= behind_blocks) some
      ∙ ap (λ r. ((r >>= A) >>= B) >>= behind_blocks)
      (field-err 7 (judge_block_node w.settings.depth last) f rest fault long err))

  -- how many keys it has
  pub key-count-reads : (count : ℕ) → d.stage ≡ KeyCount → length f ≡ 4 → judge_length f ≡ Ok count
      → ReadsPart w d f (record d { key_count = count; stage = TriangleCount }) (Ok tt)
  key-count-reads count at long ok =
      let new : DraftState = record d { key_count = count; stage = TriangleCount } in
      taken w d f is KeyCount new at
      (same_nodes w d f is new (kept w d KeyCount at is) refl refl is.edits)
      (λ rest. ap (λ r. r >>= λ keys more. length_at more >>= λ triangles last.
      from_vertices w d.node keys triangles keys [] last >>= λ b end. behind_block w d b end)
      (field-ok 4 judge_length f rest count long ok))

  -- how many triangles
  pub triangle-count-on : (count : ℕ) → d.stage ≡ TriangleCount → length f ≡ 4
      → judge_length f ≡ Ok count
      → HasMore w (record d { triangle_count = count })
      × ((rest : List ℕ)
      → read_on w d (f ++ rest) ≡ block_on w (record d { triangle_count = count }) rest)
  triangle-count-on count at long ok =
      let new : DraftState = record d { triangle_count = count } in
      let keeps = kept w d TriangleCount at is in
      let all : d.key_count ≡ d.key_count - 0 = omega arith in
      let from : ℕ → List (Key × Pos) → List ℕ → Reading WirePatch = λ n pairs more.
      from_vertices w d.node d.key_count count n pairs more >>= λ b end. behind_block w d b end in (
        record {
          block = (keeps.0, ap length keeps.1.1 ∙ sym (ap length keeps.1.0));
          keys = omega (arith, ap length keeps.1.0);
          triangles = omega (arith, ap length keeps.1.2);
          in_order = λ _. keeps.1.2;
          node = is.node;
          nodes = is.nodes;
          edits = is.edits;
        },
        λ rest. at_stage w d f is TriangleCount (f ++ rest) at
            ∙ ap (λ r. r >>= λ triangles last. from_vertices w d.node d.key_count triangles
            d.key_count [] last >>= λ b end. behind_block w d b end)
            (field-ok 4 judge_length f rest count long ok)
            ∙ ap (λ n. from n [] rest) all
            ∙ (λ i. from (d.key_count - length (sym keeps.1.0 i))
            (zip (sym keeps.1.0 i) (sym keeps.1.1 i)) rest)
            ∙ vertices-block w new rest keeps.1.2,
      )

  -- a key with its position
  pub vertex-on : (v : Key × Pos) (ks : List Key) (ps : List Pos) → d.stage ≡ Vertex → length f ≡ 20
      → judge_vertex w.settings.depth f ≡ Ok v → ks ≡ d.keys ++ v.0 ∷ []
      → ps ≡ d.positions ++ v.1 ∷ []
      → HasMore w (record d { keys = ks; positions = ps })
      × ((rest : List ℕ)
      → read_on w d (f ++ rest) ≡ block_on w (record d { keys = ks; positions = ps }) rest)
  vertex-on v ks ps at long ok keys_are positions_are =
      let new : DraftState = record d { keys = ks; positions = ps } in
      let keeps = kept w d Vertex at is in
      let m = d.key_count - (length d.keys + 1) in
      let some : d.key_count - length d.keys ≡ suc m = omega (arith, keeps.1) in
      let more_keys = ap length keys_are ∙ length-append d.keys (v.0 ∷ []) in
      let more_positions = ap length positions_are ∙ length-append d.positions (v.1 ∷ []) in
      let left : m ≡ d.key_count - length ks = omega (arith, more_keys) in
      let pairs : zip d.keys d.positions ++ v ∷ [] ≡ zip ks ps =
      sym (zip-push d.keys d.positions v.0 v.1 keeps.0.1)
      ∙ (λ i. zip (sym keys_are i) (sym positions_are i)) in
      let T : List (Key × Pos) → List ℕ → Reading WireBlock =
      λ list last. from_triangles d.node d.key_count list d.triangle_count [] last in
      let K : WireBlock → List ℕ → Reading WirePatch = λ b end. behind_block w d b end in (
        record {
          block = (keeps.0.0, omega (arith, more_keys, more_positions, keeps.0.1));
          keys = omega (arith, more_keys, keeps.1);
          triangles = omega (arith, ap length keeps.2);
          in_order = λ _. keeps.2;
          node = is.node;
          nodes = is.nodes;
          edits = is.edits;
        },
        λ rest. at_stage w d f is Vertex (f ++ rest) at
            ∙ ap (λ r. (r >>= T) >>= K)
            (items-more (vertex_at w) (d.key_count - length d.keys) (zip d.keys d.positions)
            (f ++ rest) m v rest some
            (field-ok 20 (judge_vertex w.settings.depth) f rest v long ok))
            ∙ (λ i. (items (vertex_at w) (left i) (pairs i) rest >>= T) >>= K)
            ∙ vertices-block w new rest keeps.2,
      )

  -- or refused
  pub vertex-refused : (fault : WireFault) (new : DraftState) → d.stage ≡ Vertex → length f ≡ 20
      → judge_vertex w.settings.depth f ≡ Err fault → ReadsPart w d f new (Err fault)
  vertex-refused fault new at long err =
      let keeps = kept w d Vertex at is in
      let m = d.key_count - (length d.keys + 1) in
      let some : d.key_count - length d.keys ≡ suc m = omega (arith, keeps.1) in
      let T : List (Key × Pos) → List ℕ → Reading WireBlock =
      λ list last. from_triangles d.node d.key_count list d.triangle_count [] last in
      let K : WireBlock → List ℕ → Reading WirePatch = λ b end. behind_block w d b end in
      refused w d f is Vertex fault new at (λ rest. ap (λ r. (r >>= T) >>= K)
      (items-stop (vertex_at w) (d.key_count - length d.keys) (zip d.keys d.positions)
      (f ++ rest) m fault rest some
      (field-err 20 (judge_vertex w.settings.depth) f rest fault long err)))

  -- a triangle
  pub triangle-on : (t : List ℕ) (ts : List (List ℕ)) → d.stage ≡ Triangle → length f ≡ 12
      → judge_triangle d.key_count f ≡ Ok t → ts ≡ d.triangles ++ t ∷ []
      → HasMore w (record d { triangles = ts })
      × ((rest : List ℕ) → read_on w d (f ++ rest) ≡ block_on w (record d { triangles = ts }) rest)
  triangle-on t ts at long ok are =
      let new : DraftState = record d { triangles = ts } in
      let keeps = kept w d Triangle at is in
      let m = d.triangle_count - (length d.triangles + 1) in
      let some : d.triangle_count - length d.triangles ≡ suc m = omega (arith, keeps.2) in
      let more_triangles = ap length are ∙ length-append d.triangles (t ∷ []) in
      let left : m ≡ d.triangle_count - length ts = omega (arith, more_triangles) in
      let pairs = zip d.keys d.positions in
      let W : List (List ℕ) → List ℕ → Reading WireBlock =
      λ list last. Whole (block_of d.node pairs list) last in
      let K : WireBlock → List ℕ → Reading WirePatch = λ b end. behind_block w d b end in (
        record {
          block = keeps.0;
          keys = omega (arith, keeps.1);
          triangles = omega (arith, more_triangles, keeps.2);
          in_order = λ lt. absurd (omega (arith, lt, keeps.1));
          node = is.node;
          nodes = is.nodes;
          edits = is.edits;
        },
        λ rest. at_stage w d f is Triangle (f ++ rest) at
            ∙ ap (λ r. (r >>= W) >>= K)
            (items-more (triangle_at d.key_count) (d.triangle_count - length d.triangles)
            d.triangles (f ++ rest) m t rest some
            (field-ok 12 (judge_triangle d.key_count) f rest t long ok))
            ∙ (λ i. (items (triangle_at d.key_count) (left i) (sym are i) rest >>= W) >>= K)
            ∙ triangles-block w new rest keeps.1,
      )

  -- or refused
  pub triangle-refused : (fault : WireFault) (new : DraftState) → d.stage ≡ Triangle
      → length f ≡ 12 → judge_triangle d.key_count f ≡ Err fault → ReadsPart w d f new (Err fault)
  triangle-refused fault new at long err =
      let keeps = kept w d Triangle at is in
      let m = d.triangle_count - (length d.triangles + 1) in
      let some : d.triangle_count - length d.triangles ≡ suc m = omega (arith, keeps.2) in
      let pairs = zip d.keys d.positions in
      let W : List (List ℕ) → List ℕ → Reading WireBlock =
      λ list last. Whole (block_of d.node pairs list) last in
      let K : WireBlock → List ℕ → Reading WirePatch = λ b end. behind_block w d b end in
      refused w d f is Triangle fault new at (λ rest. ap (λ r. (r >>= W) >>= K)
      (items-stop (triangle_at d.key_count) (d.triangle_count - length d.triangles) d.triangles
      (f ++ rest) m fault rest some
      (field-err 12 (judge_triangle d.key_count) f rest fault long err)))

-- ---- going on
module _ (w : ReplicaWorld) (d : DraftState) (has : HasMore w d) where
  -- keys come next
  pub goes-to-vertex : length d.keys < d.key_count
      → GoesOn w d (record d { stage = Vertex }) (Ok tt)
  goes-to-vertex more = (
    record {
      keeps = (has.block, more, has.in_order more);
      node = has.node;
      nodes = has.nodes;
      edits = has.edits;
    },
    λ rest. sym (vertices-block w d rest (has.in_order more)),
  )

  -- or triangles
  pub goes-to-triangle : d.key_count ≤ length d.keys → length d.triangles < d.triangle_count
      → GoesOn w d (record d { stage = Triangle }) (Ok tt)
  goes-to-triangle all more =
      let keys : length d.keys ≡ d.key_count = omega (arith, all, has.keys) in (
        record {
          keeps = (has.block, keys, more);
          node = has.node;
          nodes = has.nodes;
          edits = has.edits;
        },
        λ rest. sym (triangles-block w d rest keys),
      )

  -- or the block is whole
  pub goes-behind : (bs : List WireBlock) (ks : List Key) (ps : List Pos) (ts : List (List ℕ))
      (s : Stage) → d.key_count ≤ length d.keys → d.triangle_count ≤ length d.triangles
      → bs ≡ d.blocks ++ record {
        node = d.node;
        mesh = record { keys = d.keys; positions = d.positions; triangles = d.triangles };
      } ∷ [] → ks ≡ [] → ps ≡ [] → ts ≡ [] → s ≡ stage_of_blocks (record d { blocks = bs })
      → GoesOn w d (record d {
        blocks = bs;
        keys = ks;
        positions = ps;
        triangles = ts;
        stage = s;
      }) (Ok tt)
  goes-behind bs ks ps ts s all_keys all_triangles are no_keys no_positions no_triangles next =
      let new : DraftState = record d {
        blocks = bs;
        keys = ks;
        positions = ps;
        triangles = ts;
        stage = s;
      } in
      let keys : length d.keys ≡ d.key_count = omega (arith, all_keys, has.keys) in
      let none : d.triangle_count - length d.triangles ≡ 0 = omega (arith, all_triangles) in
      let pairs = zip d.keys d.positions in
      let block : WireBlock = record {
        node = d.node;
        mesh = record { keys = d.keys; positions = d.positions; triangles = d.triangles };
      } in
      let W : List (List ℕ) → List ℕ → Reading WireBlock =
      λ list last. Whole (block_of d.node pairs list) last in
      let K : WireBlock → List ℕ → Reading WirePatch = λ b end. behind_block w d b end in
      let same : block_of d.node pairs d.triangles ≡ block = λ i. record {
        node = d.node;
        mesh = record {
          keys = firsts-zip d.keys d.positions has.block.1 i;
          positions = seconds-zip d.keys d.positions has.block.1 i;
          triangles = d.triangles;
        };
      } in
      let mesh : HasNoMesh new = (no_keys, no_positions, no_triangles) in
      let P : WireBlock → Type 0 = λ b. IsNode w.settings.depth b.node in (
        record {
          keeps = subst (KeepsAt new) (sym next) (blocks-keeps new mesh);
          node = has.node;
          nodes = subst (All P) (sym are) (All-push P d.blocks block has.nodes has.node);
          edits = has.edits;
        },
        λ rest. sym (triangles-block w d rest keys)
            ∙ ap (λ r. (r >>= W) >>= K)
            (items-none (triangle_at d.key_count) (d.triangle_count - length d.triangles)
            d.triangles rest none)
            ∙ ap (λ b. behind_block w d b rest) same
            ∙ ap (λ list. blocks_on w (record d { blocks = list }) rest) (sym are)
            ∙ blocks-settled w new rest
            ∙ ap (λ t. read_from w new t rest) (sym next),
      )
