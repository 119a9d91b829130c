-- A guest's name stands in the list of names, at its place there.
use Rattle.std.proofs.Common.{refl, sym, lit<}
use Rattle.example_guests.proofs.catalogue.source_of.Goals as goal

pub returns-in-three-clause-known : goal.returns-in-three-clause-known
returns-in-three-clause-known c = ((λ _. (0, lit< tt, sym c.in-three.is)), (λ _. refl))

pub returns-in-echo-clause-known : goal.returns-in-echo-clause-known
returns-in-echo-clause-known c = ((λ _. (1, lit< tt, sym c.in-echo.is)), (λ _. refl))

pub returns-in-counter-clause-known : goal.returns-in-counter-clause-known
returns-in-counter-clause-known c = ((λ _. (2, lit< tt, sym c.in-counter.is)), (λ _. refl))

pub returns-in-divide-clause-known : goal.returns-in-divide-clause-known
returns-in-divide-clause-known c = ((λ _. (3, lit< tt, sym c.in-divide.is)), (λ _. refl))

pub returns-in-null-clause-known : goal.returns-in-null-clause-known
returns-in-null-clause-known c = ((λ _. (4, lit< tt, sym c.in-null.is)), (λ _. refl))

pub returns-in-overflow-clause-known : goal.returns-in-overflow-clause-known
returns-in-overflow-clause-known c = ((λ _. (5, lit< tt, sym c.in-overflow.is)), (λ _. refl))

pub returns-in-unset-clause-known : goal.returns-in-unset-clause-known
returns-in-unset-clause-known c = ((λ _. (6, lit< tt, sym c.in-unset.is)), (λ _. refl))

pub returns-in-twice-clause-known : goal.returns-in-twice-clause-known
returns-in-twice-clause-known c = ((λ _. (7, lit< tt, sym c.in-twice.is)), (λ _. refl))

pub returns-in-stale-clause-known : goal.returns-in-stale-clause-known
returns-in-stale-clause-known c = ((λ _. (8, lit< tt, sym c.in-stale.is)), (λ _. refl))

pub returns-in-tell_free-clause-known : goal.returns-in-tell_free-clause-known
returns-in-tell_free-clause-known c = ((λ _. (9, lit< tt, sym c.in-tell_free.is)), (λ _. refl))

pub returns-in-tell_over-clause-known : goal.returns-in-tell_over-clause-known
returns-in-tell_over-clause-known c = ((λ _. (10, lit< tt, sym c.in-tell_over.is)), (λ _. refl))

pub returns-in-pair-clause-known : goal.returns-in-pair-clause-known
returns-in-pair-clause-known c = ((λ _. (11, lit< tt, sym c.in-pair.is)), (λ _. refl))

pub returns-in-late-clause-known : goal.returns-in-late-clause-known
returns-in-late-clause-known c = ((λ _. (12, lit< tt, sym c.in-late.is)), (λ _. refl))

pub returns-in-dirty-clause-known : goal.returns-in-dirty-clause-known
returns-in-dirty-clause-known c = ((λ _. (13, lit< tt, sym c.in-dirty.is)), (λ _. refl))

pub returns-in-keys-clause-known : goal.returns-in-keys-clause-known
returns-in-keys-clause-known c = ((λ _. (14, lit< tt, sym c.in-keys.is)), (λ _. refl))

pub returns-in-grow-clause-known : goal.returns-in-grow-clause-known
returns-in-grow-clause-known c = ((λ _. (15, lit< tt, sym c.in-grow.is)), (λ _. refl))

pub returns-in-stale_grow-clause-known : goal.returns-in-stale_grow-clause-known
returns-in-stale_grow-clause-known c = ((λ _. (16, lit< tt, sym c.in-stale_grow.is)), (λ _. refl))
