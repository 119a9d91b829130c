-- Calls behind calls.
use Rattle.std.proofs.Common.{◌≡◌, List, [], ◌∷◌, ◌++◌, Option, None, Some, append_assoc, append-nil, refl, sym, ap, ◌∙◌, subst}
use Rattle.port_link.specs.Terms.{PortEntry}
use Rattle.port_link.specs.Served.{Served, fresh_served, after_call, served_after, served_of, AreCalls}
use Rattle.port_link.specs.Steps.{WentOn}
use Rattle.port_link.specs.declared.place.PortLimits.{PortLimits}

pub served_after-append : (served : Served) (calls more : List PortEntry) → served_after served (calls ++ more) ≡ served_after (served_after served calls) more
unfolding served_after
served_after-append served [] more = refl
served_after-append served (call ∷ calls) more = served_after-append (after_call served call) calls more

pub served_of-append : (calls more : List PortEntry) → served_of (calls ++ more) ≡ served_after (served_of calls) more
unfolding served_of
served_of-append calls more = served_after-append fresh_served calls more

pub are_calls-append : (limits : PortLimits) (served : Served) (calls more : List PortEntry) → AreCalls limits served calls → AreCalls limits (served_after served calls) more → AreCalls limits served (calls ++ more)
unfolding AreCalls served_after
are_calls-append limits served [] more are rest = rest
are_calls-append limits served (call ∷ calls) more are rest = (are.0, are_calls-append limits (after_call served call) calls more are.1 rest)

-- no call was made
pub calls_same : (limits : PortLimits) (told : Option (List PortEntry)) → WentOn limits told told
unfolding AreCalls
calls_same limits None = tt
calls_same limits (Some calls) = record { calls = []; grew = sym (append-nil calls); are = tt }

-- calls were made, and then more
pub calls_on : (limits : PortLimits) (first second third : Option (List PortEntry)) → WentOn limits first second → WentOn limits second third → WentOn limits first third
calls_on limits None None None one two = tt
calls_on limits None None (Some third) one two = absurd two
calls_on limits None (Some second) third one two = absurd one
calls_on limits (Some first) None third one two = absurd one
calls_on limits (Some first) (Some second) None one two = absurd two
calls_on limits (Some first) (Some second) (Some third) one two = record {
  calls = one.calls ++ two.calls;
  grew = two.grew ∙ ap (λ l. l ++ two.calls) one.grew ∙ append_assoc first one.calls two.calls;
  are = are_calls-append limits (served_of first) one.calls two.calls one.are
      (subst (λ served. AreCalls limits served two.calls) (ap served_of one.grew ∙ served_of-append first one.calls) two.are);
}
