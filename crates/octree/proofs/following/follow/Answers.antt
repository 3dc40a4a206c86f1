-- Where all viewpoints want the same nodes, the law says that their maps are one; else the chosen map is compared.
use Rattle.std.proofs.Common.{All, sym, ◌∙◌, subst}
use Rattle.std.proofs.lemmas.Bool.{false≢true}
use Rattle.lattice.specs.Point.{IsInWorld}
use Rattle.octree.specs.Choice.{IsMapOf}
use Rattle.octree.specs.SplitBits.{split_at}
use Rattle.octree.specs.Viewpoints.{place_of, points_in}
use Rattle.octree.proofs.GrownLemmas.{map_from}
use Rattle.octree.proofs.WantedLemmas.{points-inside}
use Rattle.octree.proofs.following.follow.Goals as goal

pub returns-then-want_same : goal.returns-then-want_same
returns-then-want_same c =
    let settings = c.args.settings.now in
    let same = c.want_same.ensures c.if-want_same.true in
    map_from settings (points_in c.args.after.now) c.args.levels.now c.requires.levels.depth
    (λ n. c.requires.levels.each n
    ∙ c.viewpoints_that_want_the_same_split_the_same.ensures settings
    (points_in c.args.before.now) (points_in c.args.after.now) same n)

pub choose-requires-clause-cameras : goal.choose-requires-clause-cameras
choose-requires-clause-cameras c =
    subst (All (IsInWorld c.args.settings.now.depth)) (sym (c.deref.ensures.value
    ∙ c.in_ok-cameras.ensures))
    (points-inside c.args.settings.now.depth (place_of c.args.after.now) c.requires.after)

pub returns-then-eq : goal.returns-then-eq
returns-then-eq c =
    let same = c.eq.ensures.fact.0 c.if-eq.true in
    let seen = c.deref.ensures.value ∙ c.in_ok-cameras.ensures in
    subst (λ ps. IsMapOf c.args.settings.now ps c.args.levels.now) seen
    (map_from c.args.settings.now c.deref.result.now c.args.levels.now c.requires.levels.depth
    (λ n. sym (λ i. split_at (same i) n) ∙ c.in_ok-next.ensures.split n))

pub returns : goal.returns
returns c =
    let seen = c.deref.ensures.value ∙ c.in_ok-cameras.ensures in (
      subst (λ ps. IsMapOf c.args.settings.now ps c.in_ok-next.next) seen
          (map_from c.args.settings.now c.deref.result.now c.in_ok-next.next
          c.in_ok-next.ensures.depth c.in_ok-next.ensures.split),
      λ same. false≢true (sym c.if-eq.false ∙ c.eq.ensures.fact.1 same),
    )
