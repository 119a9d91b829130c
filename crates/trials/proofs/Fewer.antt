-- A run that took no more items than the first of some needs no others.
use Rattle.run_history.proofs.Shapes.{Shape, Picks, Same, Takes, does_shape}
use Rattle.trials.proofs.Terms.{List, None, Option, Some, [], ap, arith, cond, leb, length, refl, suc, sym, zero, ℕ, ◌++◌, ◌+◌, ◌<◌, ◌∙◌, ◌∷◌, ◌≡◌, ◌≤◌, none-some, option_and_then_some, same_Some, is_some, option_and_then, option_map, slice_get, Item, Choice, Env, BadAccess, Hang, received_keeps, serves_to, takes, Effect, Fails, Machine, State, after, does, Grant, Limits, Override, Path, Served, does_with, env_at, grant, guest_of, is_refused, longer, planned_next, serve, served_next, serves, touched, served_with, IsPrompt, Rules, Survivor, Place}
use Rattle.trials.proofs.Going.{taken_later, served_one}

-- an item of the first ones
same_item : (items more : List Item) (number : ℕ) → number < length items → slice_get items number ≡ slice_get (items ++ more) number
same_item [] more number low = absurd (omega (arith, low))
same_item (item ∷ items) more zero low = refl
same_item (item ∷ items) more (suc number) low = let fewer : number < length items = omega (arith, low) in same_item items more number fewer

-- an instruction that does the same with two items
same_with : (given : Option Grant) (one other : Option Item) (m : Machine) → ((choice : Option Choice) → does one choice m ≡ does other choice m) → does_with given one m ≡ does_with given other m
same_with None one other m same = refl
same_with (Some given) one other m same = same given.chosen

same_next : (limits : Limits) (items others : List Item) (env : Env) (path : Path)
    → ((choice : Option Choice) → does (slice_get items path.state.machine.taken) choice path.state.machine ≡ does (slice_get others path.state.machine.taken) choice path.state.machine)
    → served_next limits items env path ≡ served_next limits others env path
unfolding served_next serves
same_next limits items others env path same =
    ap (λ (e : Effect). cond (is_some path.state.ended) None (option_map (longer path (grant env (guest_of path))) (after path.state (cond (leb limits.budget path.state.machine.since) (Fails Hang) (cond (is_refused limits path.heap (touched path.state.machine)) (Fails BadAccess) e)))))
    (same_with (grant env (guest_of path)) (slice_get items path.state.machine.taken) (slice_get others path.state.machine.taken) path.state.machine same)

-- one that takes the next item took one more
took_one : (s t : State) (found : Option Item) → after s (takes s.machine found) ≡ Some t → t.machine.taken ≡ s.machine.taken + 1
took_one s t None goes = absurd (none-some t goes)
took_one s t (Some item) goes = sym (ap (λ (now : State). now.machine.taken) (same_Some _ t goes)) ∙ (received_keeps item s.machine).taken

-- an instruction behind which no more items are taken than these
next_front : (limits : Limits) (items more : List Item) (env : Env) (path to : Path) → served_next limits (items ++ more) env path ≡ Some to → to.state.machine.taken ≤ length items → served_next limits items env path ≡ Some to
next_front limits items more env path to goes low = of_shape (does_shape path.state.machine)
  where
    alike : ((choice : Option Choice) → does (slice_get items path.state.machine.taken) choice path.state.machine ≡ does (slice_get (items ++ more) path.state.machine.taken) choice path.state.machine) → served_next limits items env path ≡ Some to
    alike same = same_next limits items (items ++ more) env path same ∙ goes

    of_shape : Shape path.state.machine (λ item choice. does item choice path.state.machine) → served_next limits items env path ≡ Some to
    of_shape (Same e alone is) = alike (λ choice. is (slice_get items path.state.machine.taken) choice ∙ sym (is (slice_get (items ++ more) path.state.machine.taken) choice))
    of_shape (Picks ask good is) = alike (λ choice. is (slice_get items path.state.machine.taken) choice ∙ sym (is (slice_get (items ++ more) path.state.machine.taken) choice))
    of_shape (Takes may is) =
        let parts = serves_to limits (items ++ more) env path to goes in
        let found : Option Item = slice_get (items ++ more) path.state.machine.taken in
        let count = took_one path.state to.state found (ap (after path.state) (sym (is found parts.given.chosen)) ∙ parts.goes) in
        let same = same_item items more path.state.machine.taken (omega (arith, count, low)) in
        alike (λ choice. ap (λ (item : Option Item). does item choice path.state.machine) same)

-- a run
pub served_front : (limits : Limits) (items more : List Item) (plan : List Override) (first last : Path) → last.state.machine.taken ≤ length items → Served limits (items ++ more) plan first last → Served limits items plan first last
served_front limits items more plan first last low served = record { more = served.more; ran = by_count served.more last low served.ran }
  where
    by_count : (n : ℕ) (last : Path) → last.state.machine.taken ≤ length items → serve limits (items ++ more) plan first n ≡ Some last → serve limits items plan first n ≡ Some last
    by_count zero last low ran = ran
    by_count (suc n) last low ran =
        option_and_then_some (planned_next limits (items ++ more) plan) (serve limits (items ++ more) plan first n) last ran (λ mid before goes.
        let early : mid.state.machine.taken ≤ length items = omega (arith, low, taken_later limits (items ++ more) plan mid last (served_one limits (items ++ more) plan mid last goes)) in
        ap (option_and_then (planned_next limits items plan)) (by_count n mid early before) ∙ next_front limits items more (env_at limits.base plan mid.state.machine.taken) mid last goes low)

-- and one that is prompt
pub prompt_front : (rules : Rules) (items more : List Item) (survivor : Survivor) (place : Place) → survivor.now.state.machine.taken ≤ length items → IsPrompt rules (items ++ more) survivor place → IsPrompt rules items survivor place
prompt_front rules items more survivor place low prompt = record {
  ran = served_front rules.limits items more survivor.plan survivor.begun survivor.now low prompt.ran;
  owed_nothing = λ way before.
      prompt.owed_nothing (record {
        path = way.path;
        from = served_with rules.limits items more survivor.plan survivor.begun way.path way.from;
        on = served_with rules.limits items more survivor.plan way.path survivor.now way.on;
      }) before;
}
