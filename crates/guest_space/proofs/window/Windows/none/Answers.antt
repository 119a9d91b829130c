use Rattle.guest_space.proofs.window.Windows.none.Goals as goal

pub returns : goal.returns
returns c = λ space. record {
  loads = c.none.ensures.loads space;
  stores = c.none-2.ensures.stores space;
}
