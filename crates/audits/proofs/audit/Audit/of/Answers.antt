-- The counts of a frame.
use Rattle.std.proofs.Common.{◌*◌, ◌≤◌, Bool, eqb, not, List, length, ap, ◌∙◌, arith}
use Rattle.std.specs.Prelude.{filter, unsigned_abs}
use Rattle.terrain.specs.declared.cells.TheConstants.{LEAF_TRIANGLES}
use Rattle.snapshots.specs.Frame.{mesh_after}
use Rattle.terrain.specs.Blocks.{border, frame_edges, scratch}
use Rattle.terrain.specs.History.{sample}
use Rattle.terrain.specs.Levels.{leaves, levels}
use Rattle.audits.specs.Audit.{is_on_border, is_open, pairs_of}
use Rattle.audits.specs.declared.leaves.TheConstants.{MAX_LEAVES}
use Rattle.audits.proofs.AuditLemmas.{filter-all, filter-none, filter-same, open-on_border, triangles-few}
use Rattle.audits.proofs.LeafCountLemmas.{length-leaves}
use Rattle.audits.proofs.TallyLemmas.{Pair}
use Rattle.audits.proofs.audit.Audit.of.Goals as goal
use Rattle.audits.proofs.audit.Audit.of.Goals.{After-stats-triangles}

-- the mesh of the journal has few triangles
few : (c : After-stats-triangles)
    → c.stats-triangles.result.triangles ≤ LEAF_TRIANGLES * MAX_LEAVES
few c =
    let rules = c.args.frame.now.settings in
    let events = c.args.frame.now.events in
    let all = triangles-few (mesh_after rules events) LEAF_TRIANGLES
    (leaves rules.depth (levels rules events))
    (c.triangles_are_few.ensures.leaf rules.depth (sample rules events) (levels rules events)) in
    let long = length-leaves rules.depth (levels rules events) c.requires.allowed.depth in
    let is = ap (λ (s : _). s.triangles) c.stats-triangles.ensures in
    omega (arith, is, all, long)

pub overflow_mul-result : goal.overflow_mul-result
overflow_mul-result c =
    let fits = few (goal.at.overflow_mul-result c).After-stats-triangles in
    omega (arith, fits)

pub returns-clause-counts : goal.returns-clause-counts
returns-clause-counts c =
    let rules = c.args.frame.now.settings in
    let edges : List Pair = frame_edges (scratch rules c.args.frame.now.events) in
    let depth = ap (λ (s : _). s.depth) c.settings.ensures.value in
    let open_pairs : List Pair = filter (is_open edges) (pairs_of edges) in
    let inside = c.open_pairs-open.ensures.inside edges c.in_ok-tally.ensures.counts
    ∙ ap (λ d. length (filter (λ pair. not (is_on_border d pair)) open_pairs)) depth in
    let on_border = c.open_pairs-open.ensures.on_border edges c.in_ok-tally.ensures.counts
    ∙ ap (λ d. length (filter (is_on_border d) open_pairs)) depth in
    let triangles = ap (λ (s : _). s.triangles) c.stats-triangles.ensures in
    λ i. record { edges = 3 * triangles i; cracks = inside i; border = on_border i }

pub returns-clause-cracks : goal.returns-clause-cracks
returns-clause-cracks c =
    let rules = c.args.frame.now.settings in
    let history = c.args.frame.now.events in
    let edges : List Pair = frame_edges (scratch rules history) in
    let depth = ap (λ (s : _). s.depth) c.settings.ensures.value in
    c.open_pairs-open.ensures.inside edges c.in_ok-tally.ensures.counts
    ∙ ap (λ d. length (filter (λ pair. not (is_on_border d pair))
    (filter (is_open edges) (pairs_of edges)))) depth
    ∙ ap length (filter-none (is_open edges) (λ pair. not (is_on_border rules.depth pair))
    (pairs_of edges) (λ pair is. ap not
    (open-on_border rules history (c.histories_are_seamless.ensures rules history) pair is)))

pub returns-clause-border : goal.returns-clause-border
returns-clause-border c =
    let rules = c.args.frame.now.settings in
    let history = c.args.frame.now.events in
    let edges : List Pair = frame_edges (scratch rules history) in
    let seamless = c.histories_are_seamless.ensures rules history in
    let depth = ap (λ (s : _). s.depth) c.settings.ensures.value in
    let left : Pair → Bool = λ pair. not (eqb (unsigned_abs (border rules.depth
    (sample rules history) (levels rules history) pair.0 pair.1)) 0) in
    c.open_pairs-open.ensures.on_border edges c.in_ok-tally.ensures.counts
    ∙ ap (λ d. length (filter (is_on_border d) (filter (is_open edges) (pairs_of edges)))) depth
    ∙ ap length (filter-all (is_open edges) (is_on_border rules.depth) (pairs_of edges)
    (open-on_border rules history seamless)
    ∙ filter-same (is_open edges) left (pairs_of edges) (λ pair.
    ap (λ z. not (eqb (unsigned_abs z) 0)) (seamless.on_border pair.0 pair.1)))

pub returns-in_err-tally-clause-seamless : goal.returns-in_err-tally-clause-seamless
returns-in_err-tally-clause-seamless c =
    c.sound_frames_have_no_crack.ensures.seamless c.args.frame.now c.requires

pub returns-clause-seamless : goal.returns-clause-seamless
returns-clause-seamless c =
    c.sound_frames_have_no_crack.ensures.seamless c.args.frame.now c.requires
