-- A guest that runs as recorded to its next question is a run that goes on.
use Rattle.std.specs.declared.alloc.AllocError.{AllocError}
use Rattle.guest_cpu.specs.declared.event.Question.TheVariants as question
use Rattle.replay.proofs.Terms.{List, None, Option, Some, [], ap, arith, length, length-append, refl, subst, suc, sym, true, zero, ℕ, ◌++◌, ◌+◌, ◌<◌, ◌∙◌, ◌∷◌, ◌≡◌, ◌≤◌, none-some, option_and_then_some, same_Some, Err, Ok, Result, Send, is_bare, run_one, MaySend, Chooses, Fails, Machine, Wants, repeated, does, run, Question, recorded, RunsBy, Live, Standing, Turn, live_after, quiet_next, quietly, unless_event, state_of}
use Rattle.replay.proofs.TurnLemmas.{IsStep, Means, IsWithin, turn_means}

-- A run goes on with these sends, and takes no item and no answer of the allocator, to where it has those; no further than so many instructions.
pub record Ran (until : ℕ) (old new : Standing) (before after : List Send → List Send) : Type 0 where
  pub count : ℕ
  pub ran : (sends : List Send) → run [] [] (state_of (before sends) old) count ≡ Some (state_of (after sends) new)
  pub steps : new.steps ≡ old.steps + count
  pub within : old.steps ≤ until → new.steps ≤ until
  pub taken : new.guest.machine.taken ≡ old.guest.machine.taken
  pub allocations : new.guest.machine.allocations ≡ old.guest.machine.allocations
  pub connections : new.guest.machine.connections ≡ old.guest.machine.connections
  pub sent : (sends : List Send) → length (after sends) + old.sends ≡ length (before sends) + new.sends
  pub bare : is_bare old.guest.heap ≡ true → is_bare new.guest.heap ≡ true

abbrev pub same_sends : List Send → List Send
same_sends sends = sends

abbrev pub with_send : Send → List Send → List Send
with_send send sends = sends ++ send ∷ []

ran_same : {until : ℕ} {s : Standing} → Ran until s s same_sends same_sends
ran_same = record {
  count = 0;
  ran = λ sends. refl;
  steps = omega arith;
  within = λ low. low;
  taken = refl;
  allocations = refl;
  connections = refl;
  sent = λ sends. refl;
  bare = λ bare. bare;
}

-- one instruction more
ran_step : {until : ℕ} {first old new : Standing} → Ran until first old same_sends same_sends → old.steps < until → IsStep old new → Ran until first new same_sends same_sends
ran_step {first = first} {old = old} {new = new} ran low step = record {
  count = ran.count + 1;
  ran = λ sends. run_one [] [] (state_of sends first) (state_of sends old) (state_of sends new) ran.count (ran.ran sends) (step.goes sends);
  steps = omega (arith, ran.steps, step.steps);
  within = λ was. omega (arith, low, step.steps);
  taken = step.keeps.taken ∙ ran.taken;
  allocations = step.keeps.allocations ∙ ran.allocations;
  connections = step.keeps.connections ∙ ran.connections;
  sent = λ sends. omega (arith, ran.sent sends, step.sent);
  bare = λ bare. step.bare (ran.bare bare);
}

-- a quiet turn, by its parts
record IsQuiet (until : ℕ) (old new : Standing) : Type 0 where
  last : Turn Question
  turns : recorded until old ≡ Some last
  none : last.event ≡ None
  left : new ≡ last.standing

quiet_parts : {until : ℕ} (base : ℕ) (old : Live) {new : Live} → quiet_next (recorded until) base old ≡ Some new → IsQuiet until old.standing new.standing
unfolding quiet_next
quiet_parts {until = until} base old {new = new} goes = option_and_then_some (quietly base old) (recorded until old.standing) new goes (λ t turns quiet. of_event t turns t.event refl quiet)
  where
    of_event : (t : Turn Question) → recorded until old.standing ≡ Some t → (event : Option Question) → t.event ≡ event → unless_event event (live_after base old t) ≡ Some new → IsQuiet until old.standing new.standing
    of_event t turns None is quiet = record { last = t; turns = turns; none = is; left = sym (ap (λ (l : Live). l.standing) (same_Some _ new quiet)) }
    of_event t turns (Some event) is quiet = absurd (none-some new quiet)

quiet_step : {until : ℕ} {old new : Standing} → old.ended ≡ None → IsQuiet until old new → IsStep old new × (old.steps < until)
quiet_step {until = until} {old = old} lives quiet =
    let same = subst (λ (e : Option Question). Means old e quiet.last.standing × IsWithin until old.steps e) quiet.none (turn_means until old lives quiet.turns) in
    (subst (λ (s : Standing). IsStep old s) (sym quiet.left) same.0, same.1)

-- so many quiet turns
pub ran_quietly : {until : ℕ} (base : ℕ) (count : ℕ) (old : Live) {new : Live} → old.standing.ended ≡ None → repeated (quiet_next (recorded until) base) count old ≡ Some new
    → Ran until old.standing new.standing same_sends same_sends × (new.standing.ended ≡ None)
ran_quietly {until = until} base zero old {new = new} lives ran =
    let same : old.standing ≡ new.standing = ap (λ (l : Live). l.standing) (same_Some old new ran) in
    (subst (λ (s : Standing). Ran until old.standing s same_sends same_sends) same (ran_same), ap (λ (s : Standing). s.ended) (sym same) ∙ lives)
ran_quietly {until = until} base (suc count) old {new = new} lives ran =
    option_and_then_some (quiet_next (recorded until) base) (repeated (quiet_next (recorded until) base) count old) new ran (λ mid before goes.
    let first = ran_quietly base count old lives before in
    let step = quiet_step first.1 (quiet_parts base mid goes) in
    (ran_step first.0 step.1 step.0, step.0.ended ∙ first.1))

-- What a question says of the run of a guest: by where it stood, and where it stands.
abbrev pub ComesTo : ℕ → Standing → Question → Standing → Type 0
ComesTo until old question.Reached new = Ran until old new same_sends same_sends × (until ≤ new.steps) × (new.ended ≡ None)
ComesTo until old question.Asks new = Ran until old new same_sends same_sends × (new.steps < until) × (new.ended ≡ None) × (does None None new.guest.machine ≡ Wants)
ComesTo until old (question.Emits conn bytes) new =
    Ran until old new same_sends (with_send (record { conn = conn; bytes = bytes; taken = old.guest.machine.taken })) × (new.ended ≡ None)
    × ((m : Machine) × (m.connections ≡ old.guest.machine.connections) × MaySend m conn bytes) × (old.steps < new.steps)
ComesTo until old (question.Wants ask) new = Ran until old new same_sends same_sends × (new.steps < until) × (new.ended ≡ None) × (does None None new.guest.machine ≡ Chooses ask)
ComesTo until old (question.Exits code) new = Ran until old new same_sends same_sends × (new.ended ≡ Some code)
ComesTo until old (question.Failed cause) new = Ran until old new same_sends same_sends × (new.steps < until) × (new.ended ≡ None) × (does None None new.guest.machine ≡ Fails cause)

-- the same where memory ran out for the bytes of a send
abbrev pub ComesBy : ℕ → Standing → Result Question AllocError → Standing → Type 0
ComesBy until old (Ok question) new = ComesTo until old question new
ComesBy until old (Err e) new = Ran until old new same_sends same_sends × (new.ended ≡ None)

-- the last turn
emits_last : {until : ℕ} {first old new : Standing} {conn : ℕ} {bytes : List ℕ} → Ran until first old same_sends same_sends → old.ended ≡ None → Means old (Some (question.Emits conn bytes)) new → old.steps < until
    → ComesTo until first (question.Emits conn bytes) new
emits_last {first = first} {old = old} {new = new} {conn = conn} {bytes = bytes} ran lives means low = (
  record {
    count = ran.count + 1;
    ran = λ sends. run_one [] [] (state_of sends first) (state_of sends old) (state_of (with_send (record { conn = conn; bytes = bytes; taken = first.guest.machine.taken }) sends) new) ran.count (ran.ran sends)
        (means.0 sends ∙ ap (λ (n : ℕ). Some (state_of (sends ++ record { conn = conn; bytes = bytes; taken = n } ∷ []) new)) ran.taken);
    steps = omega (arith, ran.steps, means.3);
    within = λ was. omega (arith, low, means.3);
    taken = means.1.taken ∙ ran.taken;
    allocations = means.1.allocations ∙ ran.allocations;
    connections = means.1.connections ∙ ran.connections;
    sent = λ sends. omega (arith, ran.sent sends, means.6, length-append sends (record { conn = conn; bytes = bytes; taken = first.guest.machine.taken } ∷ []));
    bare = λ bare. means.5 (ran.bare bare);
  },
  means.4 ∙ lives,
  (old.guest.machine, ran.connections, means.2),
  omega (arith, ran.steps, means.3),
)

exits_last : {until : ℕ} {first old new : Standing} {code : ℕ} → Ran until first old same_sends same_sends → Means old (Some (question.Exits code)) new → old.steps < until → ComesTo until first (question.Exits code) new
exits_last {first = first} {old = old} {new = new} ran means low = (
  record {
    count = ran.count + 1;
    ran = λ sends. run_one [] [] (state_of sends first) (state_of sends old) (state_of sends new) ran.count (ran.ran sends) (means.0 sends);
    steps = omega (arith, ran.steps, means.2);
    within = λ was. omega (arith, low, means.2);
    taken = ap (λ g. g.machine.taken) means.1 ∙ ran.taken;
    allocations = ap (λ g. g.machine.allocations) means.1 ∙ ran.allocations;
    connections = ap (λ g. g.machine.connections) means.1 ∙ ran.connections;
    sent = λ sends. omega (arith, ran.sent sends, means.4);
    bare = λ bare. ap (λ g. is_bare g.heap) means.1 ∙ ran.bare bare;
  },
  means.3,
)

last_by : {until : ℕ} {first old : Standing} (new : Standing) (question : Question) → Ran until first old same_sends same_sends → old.ended ≡ None → Means old (Some question) new → IsWithin until old.steps (Some question)
    → ComesTo until first question new
last_by {until = until} {first = first} new question.Reached ran lives means low =
    subst (λ (s : Standing). ComesTo until first question.Reached s) (sym means) (ran, low, lives)
last_by {until = until} {first = first} new question.Asks ran lives means low =
    subst (λ (s : Standing). ComesTo until first question.Asks s) (sym means.0) (ran, low, lives, means.1)
last_by new (question.Emits conn bytes) ran lives means low = emits_last ran lives means low
last_by {until = until} {first = first} new (question.Wants ask) ran lives means low =
    subst (λ (s : Standing). ComesTo until first (question.Wants ask) s) (sym means.0) (ran, low, lives, means.1)
last_by new (question.Exits code) ran lives means low = exits_last ran means low
last_by {until = until} {first = first} new (question.Failed cause) ran lives means low =
    subst (λ (s : Standing). ComesTo until first (question.Failed cause) s) (sym means.0) (ran, low, lives, means.1)

pub comes_by : (until base : ℕ) (old new : Live) (result : Result Question AllocError) → old.standing.ended ≡ None → RunsBy question.Emits (recorded until) base old result new → ComesBy until old.standing result new.standing
comes_by until base old new (Ok question) lives runs =
    let quiet = ran_quietly base runs.count old lives runs.quiet in
    let here = subst (λ (e : Option Question). Means runs.before.standing e runs.last.standing × IsWithin until runs.before.standing.steps e) runs.is_event (turn_means until runs.before.standing quiet.1 runs.turns) in
    last_by new.standing question quiet.0 quiet.1 (subst (λ (s : Standing). Means runs.before.standing (Some question) s) (sym (ap (λ (l : Live). l.standing) runs.left)) here.0) here.1
comes_by until base old new (Err e) lives runs = ran_quietly base runs.count old lives runs.quiet
