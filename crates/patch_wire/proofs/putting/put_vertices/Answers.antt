-- Piece by piece.
use Rattle.std.proofs.Common.{◌≡◌, ℕ, ◌<◌, ◌≤◌, List, ◌++◌, length, get_or, subst, sym, ap, arith}
use Rattle.std.specs.List.{flat_map, zip}
use Rattle.std.proofs.lemmas.List.{take_all}
use Rattle.std.proofs.lemmas.Result.{err_from_is_err_and}
use Rattle.std.proofs.lemmas.Slice.Zip.{get_or-zip, length-zip}
use Rattle.lattice.specs.declared.key.Key.{Key}
use Rattle.lattice.specs.declared.point.Axis.TheVariants.{X}
use Rattle.lattice.specs.declared.point.Pos.{Pos}
use Rattle.mesh_out.specs.Writing.{Writes}
use Rattle.replicas.specs.Grammar.{vertex_bytes}
use Rattle.patch_wire.specs.Putting.{CutsOff}
use Rattle.patch_wire.proofs.BatchLemmas.{item-on, item-stops, put-none}
use Rattle.patch_wire.proofs.putting.put_vertices.Goals as goal

-- what the lists are read as past their ends
abbrev no_vertex : Key × Pos
no_vertex = (
  record { level = 0; at = record { z = 0; y = 0; x = 0 }; axis = X },
  record { x = 0; y = 0; z = 0 },
)

-- each key has a position
both : (keys : List Key) (positions : List Pos) → length positions ≡ length keys
    → length (zip keys positions) ≡ length keys
both keys positions paired = omega (arith, length-zip keys positions, paired)

-- the bytes of a key and its position are those of their pair
paired_bytes : (keys : List Key) (positions : List Pos) (i : ℕ) → i < length keys
    → length positions ≡ length keys
    → vertex_bytes (get_or keys i no_vertex.0, get_or positions i no_vertex.1)
    ≡ vertex_bytes (get_or (zip keys positions) i no_vertex)
paired_bytes keys positions i inside paired =
    ap vertex_bytes
    (sym (get_or-zip keys positions i no_vertex inside (omega (arith, inside, paired))))

-- and there is a pair
in_pairs : (keys : List Key) (positions : List Pos) (i : ℕ) → i < length keys
    → length positions ≡ length keys → i < length (zip keys positions)
in_pairs keys positions i inside paired = omega (arith, both keys positions paired, inside)

pub loop-i-init : goal.loop-i-init
loop-i-init g c = put-none (g.K.Sink.state c.args.sink.now) c.args.batch.now

pub loop-i-preserved : goal.loop-i-preserved
loop-i-preserved g c =
    let state = g.K.Sink.state in
    let keys = c.args.keys.now in
    let positions = c.args.positions.now in
    let i = c.loop-i.i in
    let paired = c.requires.paired in
    let same = paired_bytes keys positions i c.loop-i-test.true paired in
    item-on vertex_bytes (zip keys positions) i no_vertex
    (in_pairs keys positions i c.loop-i-test.true paired)
    (state c.args.sink.now) (state c.loop-i.sink) (state c.put_vertex.new.sink) c.args.batch.now
    c.loop-i.batch c.put_vertex.new.batch c.loop-i.invariant
    (subst (λ bytes. Writes (state c.loop-i.sink) (state c.put_vertex.new.sink)
    (c.loop-i.batch ++ bytes) c.put_vertex.new.batch) same c.in_ok-put_vertex.ensures.held)

pub returns-in_err-put_vertex-clause-stopped : goal.returns-in_err-put_vertex-clause-stopped
returns-in_err-put_vertex-clause-stopped g c =
    let state = g.K.Sink.state in
    let keys = c.args.keys.now in
    let positions = c.args.positions.now in
    let i = c.loop-i.i in
    let paired = c.requires.paired in
    let same = paired_bytes keys positions i c.loop-i-test.true paired in
    let p = err_from_is_err_and c.from_residual.result c.from_residual.ensures.1 in
    rw p.1 (item-stops vertex_bytes (zip keys positions) i no_vertex
    (in_pairs keys positions i c.loop-i-test.true paired)
    (state c.args.sink.now) (state c.loop-i.sink) (state c.put_vertex.new.sink) c.args.batch.now
    c.loop-i.batch c.loop-i.invariant
    (subst (λ bytes. CutsOff (state c.loop-i.sink) (state c.put_vertex.new.sink)
    (c.loop-i.batch ++ bytes)) same c.in_err-put_vertex.ensures.stopped))

pub returns-clause-held : goal.returns-clause-held
returns-clause-held g c =
    let state = g.K.Sink.state in
    let pairs = zip c.args.keys.now c.args.positions.now in
    let few : length pairs ≤ c.loop-i.i =
    omega (arith, both c.args.keys.now c.args.positions.now c.requires.paired, c.loop-i-test.false)
    in
    subst (λ xs. Writes (state c.args.sink.now) (state c.loop-i.sink)
    (c.args.batch.now ++ flat_map vertex_bytes xs) c.loop-i.batch)
    (take_all c.loop-i.i pairs few) c.loop-i.invariant
