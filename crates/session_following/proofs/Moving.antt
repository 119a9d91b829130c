-- What came before a session that follows is what its steps tell, one after another.
use Rattle.links.specs.declared.journal.Entry.TheVariants as entry
use Rattle.session_following.proofs.Terms.{List, [], ap, append-nil, arith, length, refl, suc, sym, take, ℕ, ◌++◌, ◌+◌, ◌-◌, ◌∙◌, ◌∷◌, ◌≡◌, map-append, Send, sent_to, LinkEvent, events_in-append, events_in, Choice, Env, Image, start, start_machine, Limits, Override, Path, env_at, origin, standing_of, Standing, heard_alone, Handed, count_of, held, plan_of, came_before, plan_up_to, held_count, before_heard, before_moved, before_sent, before_start, before_took, moved_on, path_at, followed_before}
use Rattle.session_following.proofs.Held.{held_then, take_taken}

-- a run is the one that stands there, sent that and used those answers
moved_is : (now to : Path) (standing : Standing) (sends : List Send) (choices : List Choice) → standing ≡ standing_of to → to.state.sends ≡ now.state.sends ++ sends → to.choices ≡ now.choices ++ choices → moved_on standing sends choices now ≡ to
moved_is now to standing sends choices stands sent chose = λ i. path_at (stands i) (sym sent i) (sym chose i)

module _ (limits : Limits) (handed : Handed) (events : List LinkEvent) (now to : Path) (standing : Standing) (stands : standing ≡ standing_of to) where
  pub moved_before : (choices : List Choice) → to.state.sends ≡ now.state.sends → to.choices ≡ now.choices ++ choices → to.state.machine.taken ≡ now.state.machine.taken → before_moved (followed_before limits handed events now) standing choices ≡ followed_before limits handed events to
  moved_before choices sent chose still =
      λ i. came_before (events_in (heard_alone events)) (held handed.counts (sym sent i)) (plan_up_to limits.base (plan_of limits.keep handed.episodes) (sym still i)) (moved_is now to standing [] choices stands (sent ∙ sym (append-nil now.state.sends)) chose i)

  pub sent_before : (send : Send) → to.state.sends ≡ now.state.sends ++ send ∷ [] → to.choices ≡ now.choices → to.state.machine.taken ≡ now.state.machine.taken
      → before_sent (followed_before limits handed events now) standing send (held_count handed.counts now.state.sends send) ≡ followed_before limits handed events to
  sent_before send sent chose still =
      let left : ℕ = count_of handed.counts send.conn - length (sent_to send.conn now.state.sends) in
      let part : take (held_count handed.counts now.state.sends send) send.bytes ≡ take left send.bytes = take_taken left send.bytes in
      let had : held handed.counts now.state.sends ++ record send { bytes = take (held_count handed.counts now.state.sends send) send.bytes } ∷ [] ≡ held handed.counts to.state.sends =
      ap (λ (bytes : List ℕ). held handed.counts now.state.sends ++ record send { bytes = bytes } ∷ []) part ∙ (sym (held_then handed.counts now.state.sends send) ∙ ap (held handed.counts) (sym sent)) in
      λ i. came_before (events_in (heard_alone events)) (had i) (plan_up_to limits.base (plan_of limits.keep handed.episodes) (sym still i)) (moved_is now to standing (send ∷ []) [] stands sent (chose ∙ sym (append-nil now.choices)) i)

  pub took_before : (env : Env) → to.state.sends ≡ now.state.sends → to.choices ≡ now.choices → to.state.machine.taken ≡ now.state.machine.taken + 1 → env ≡ env_at limits.base (plan_of limits.keep handed.episodes) to.state.machine.taken
      → before_took (followed_before limits handed events now) standing env ≡ followed_before limits handed events to
  unfolding plan_up_to
  took_before env sent chose took env_is =
      let plan : List Override = plan_of limits.keep handed.episodes in
      let taken : standing.guest.machine.taken ≡ now.state.machine.taken + 1 = ap (λ (s : Standing). s.guest.machine.taken) stands ∙ took in
      let here : env ≡ env_at limits.base plan (now.state.machine.taken + 1) = env_is ∙ ap (env_at limits.base plan) took in
      let next : record { low = standing.guest.machine.taken; until = standing.guest.machine.taken + 1; env = env } ∷ plan_up_to limits.base plan now.state.machine.taken ≡ plan_up_to limits.base plan (suc now.state.machine.taken) =
      λ i. record { low = taken i; until = (ap (λ (n : ℕ). n + 1) taken ∙ two now.state.machine.taken) i; env = here i } ∷ plan_up_to limits.base plan now.state.machine.taken in
      let number : suc now.state.machine.taken ≡ to.state.machine.taken = omega (arith, took) in
      λ i. came_before (events_in (heard_alone events)) (held handed.counts (sym sent i)) ((next ∙ ap (plan_up_to limits.base plan) number) i) (moved_is now to standing [] [] stands (sent ∙ sym (append-nil now.state.sends)) (chose ∙ sym (append-nil now.choices)) i)
    where
      two : (n : ℕ) → (n + 1) + 1 ≡ n + 2
      two n = omega arith

pub heard_before : (limits : Limits) (handed : Handed) (events : List LinkEvent) (now : Path) (event : LinkEvent) → before_heard (followed_before limits handed events now) event ≡ followed_before limits handed (events ++ event ∷ []) now
heard_before limits handed events now event =
    let same : events_in (heard_alone events) ++ events_in (entry.Took event ∷ []) ≡ events_in (heard_alone (events ++ event ∷ [])) =
    sym (ap events_in (map-append (λ (e : LinkEvent). entry.Took e) events (event ∷ [])) ∙ events_in-append (heard_alone events) (entry.Took event ∷ [])) in
    ap (λ (all : List LinkEvent). came_before all (held handed.counts now.state.sends) (plan_up_to limits.base (plan_of limits.keep handed.episodes) now.state.machine.taken) now) same

pub start_before : (limits : Limits) (handed : Handed) (image : Image) → before_start image (env_at limits.base (plan_of limits.keep handed.episodes) 0) ≡ followed_before limits handed [] (origin image)
unfolding plan_up_to start start_machine
start_before limits handed image = refl
