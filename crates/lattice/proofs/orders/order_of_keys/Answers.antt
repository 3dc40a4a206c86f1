-- The derived comparison is by level, then point, then axis.
use Rattle.std.proofs.Common.{refl}
use Rattle.lattice.proofs.OrderLemmas.{keys_ordered-by}
use Rattle.lattice.proofs.orders.order_of_keys.Goals as goal

pub returns : goal.returns
returns c = keys_ordered-by _ (λ a b. refl) (record {
  xx = refl;
  xy = refl;
  xz = refl;
  yx =
      refl;
  yy = refl;
  yz = refl;
  zx = refl;
  zy = refl;
  zz = refl;
})
