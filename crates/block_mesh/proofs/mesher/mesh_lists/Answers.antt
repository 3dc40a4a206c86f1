-- A leaf of one sign has no mesh; of all others a builder makes it.
use Rattle.std.proofs.Common.{◌∙◌, ap, sym, subst}
use Rattle.block_mesh.specs.Mesh.{IsMeshOf}
use Rattle.block_mesh.specs.Signs.{have_one_sign}
use Rattle.block_mesh.proofs.MeshLemmas.{HasOneSign, IsMeshOf-none}
use Rattle.block_mesh.proofs.mesher.mesh_lists.Goals as goal

pub returns-then-have_one_sign-2-clause-shows : goal.returns-then-have_one_sign-2-clause-shows
returns-then-have_one_sign-2-clause-shows c =
    let signs : HasOneSign c.args.brick.now = record {
      leaf = ap have_one_sign (sym c.samples.ensures.value)
          ∙ sym c.have_one_sign.ensures ∙ c.if-have_one_sign.true;
      faces = ap have_one_sign (sym c.faces.ensures.value)
          ∙ sym c.have_one_sign-then-have_one_sign.ensures ∙ c.if-have_one_sign-2.true;
    } in
    subst (IsMeshOf c.args.brick.now) (sym c.empty.ensures)
    (IsMeshOf-none c.args.brick.now c.samples.ensures.brick signs)

pub mesh_in-requires-clause-brick : goal.mesh_in-requires-clause-brick
mesh_in-requires-clause-brick c = c.samples.ensures.brick

pub mesh_in-requires-clause-none : goal.mesh_in-requires-clause-none
mesh_in-requires-clause-none c = c.in_ok-builder.ensures.none

pub mesh_in-requires-clause-builds : goal.mesh_in-requires-clause-builds
mesh_in-requires-clause-builds c = c.in_ok-builder.ensures.builds

pub mesh_in-requires-clause-holds : goal.mesh_in-requires-clause-holds
mesh_in-requires-clause-holds c = c.in_ok-builder.ensures.holds

pub keep-requires : goal.keep-requires
keep-requires c = c.in_ok-mesh.ensures.spare

pub returns-clause-shows : goal.returns-clause-shows
returns-clause-shows c = c.in_ok-mesh.ensures.shows

pub returns-clause-few : goal.returns-clause-few
returns-clause-few c = c.in_ok-mesh.ensures.few
