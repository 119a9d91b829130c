-- What a session has noted.
use Rattle.session_history.specs.declared.ends.Stop.TheVariants as stop
use Rattle.session_state.proofs.Terms.{List, Option, [], ap, append-nil, arith, drop, inl, length, length-drop, map, refl, subst, sym, take, ℕ, ◌++◌, ◌+◌, ◌∙◌, ◌≡◌, ◌≤◌, drop-length, take-length, take-append-drop, grew_more, Grew, Seen, Choice, Image, SessionBreak, SessionEnd, Rules, Noted, episode_of, SessionState, HasNoted, IsHandedLast, episodes_of, last_of, IsEnding, Since}

module _ {X : Type 0} where
  pub grew_same : (first : Option (List X)) {second third : Option (List X)} (more : List X) → Grew first second more → third ≡ second → Grew first third more
  grew_same first more grew same = subst (λ t. Grew first t more) (sym same) grew

  -- the first elements, and all the others
  pub all_taken : (count : ℕ) (xs : List X) {ys : List X} → ys ≡ drop count xs → take count xs ++ ys ≡ xs
  all_taken count xs is = ap (λ l. take count xs ++ l) is ∙ take-append-drop count xs

  pub taken_all : (count : ℕ) (xs : List X) {ys : List X} → ys ≡ drop count xs → count ≤ length xs → count + length ys ≡ length xs
  taken_all count xs is low = omega (arith, ap length is, length-drop count xs, low)

module _ {R : Type 0} where
  -- at an end whose answers of the allocator aren't all noted yet, where a fault takes its place
  abbrev pub notes_fault : {rules : Rules} {image : Image} {began : Since} {seen : Seen} {session : SessionState R} {end : SessionEnd} {fault : SessionBreak} {noted : Noted} (e : IsEnding rules image began seen session end)
      → noted.choices ≡ began.noted.choices → noted.episodes ≡ began.noted.episodes → IsHandedLast began.noted.unnoted noted.unnoted (stop.Breaks fault) session.choices []
      → HasNoted began.noted_before noted (stop.Breaks fault) e.story.survivor.now.choices (episodes_of e.story e.walk) session.recorded session.choices
  notes_fault {began = began} {session = session} {fault = fault} {noted = noted} e choices episodes handed = record {
    low = e.answers.low;
    tail_is = e.answers.choices;
    all_recorded = tt;
    choices_noted =
        grew_same began.noted_before.choices (take session.recorded e.story.survivor.now.choices)
        (subst (Grew began.noted_before.choices began.noted.choices) (append-nil (take session.recorded e.story.survivor.now.choices))
        (grew_more began.noted_before.choices e.noted.choices began.noted.choices (take session.recorded e.story.survivor.now.choices) [] e.answers.recorded e.last_noted.choices_more)) choices;
    told = episodes_of e.story e.walk;
    missing = [];
    all_told = append-nil (episodes_of e.story e.walk);
    handed = subst (λ u. IsHandedLast u noted.unnoted (stop.Breaks fault) session.choices []) (e.last_noted.unnoted_same ∙ e.answers.unnoted) handed;
    episodes_noted =
        grew_same began.noted_before.episodes (episodes_of e.story e.walk)
        (grew_more began.noted_before.episodes e.noted.episodes began.noted.episodes (map episode_of e.story.recoveries) (last_of e.story.survivor e.walk) e.told.episodes e.last_noted.episodes_more) episodes;
  }

  -- and where all of them are
  abbrev pub notes_end : {rules : Rules} {image : Image} {began : Since} {seen : Seen} {session : SessionState R} {end : SessionEnd} {noted : Noted} (e : IsEnding rules image began seen session end)
      → Grew began.noted.choices noted.choices session.choices → noted.episodes ≡ began.noted.episodes → noted.unnoted ≡ began.noted.unnoted
      → HasNoted began.noted_before noted (stop.Ends end) e.story.survivor.now.choices (episodes_of e.story e.walk) (session.recorded + length session.choices) []
  notes_end {began = began} {session = session} {noted = noted} e choices episodes same =
      let all : List Choice = e.story.survivor.now.choices in
      let count : session.recorded + length session.choices ≡ length all = taken_all session.recorded all e.answers.choices e.answers.low in
      record {
        low = omega (arith, count);
        tail_is = sym (ap (λ n. drop n all) count ∙ drop-length all);
        all_recorded = refl;
        choices_noted =
            subst (Grew began.noted_before.choices noted.choices) (all_taken session.recorded all e.answers.choices ∙ sym (ap (λ n. take n all) count ∙ take-length all))
            (grew_more began.noted_before.choices began.noted.choices noted.choices (take session.recorded all) session.choices
            (subst (Grew began.noted_before.choices began.noted.choices) (append-nil (take session.recorded all))
            (grew_more began.noted_before.choices e.noted.choices began.noted.choices (take session.recorded all) [] e.answers.recorded e.last_noted.choices_more)) choices);
        told = episodes_of e.story e.walk;
        missing = [];
        all_told = append-nil (episodes_of e.story e.walk);
        handed = inl (same ∙ (e.last_noted.unnoted_same ∙ e.answers.unnoted), refl);
        episodes_noted =
            grew_same began.noted_before.episodes (episodes_of e.story e.walk)
            (grew_more began.noted_before.episodes e.noted.episodes began.noted.episodes (map episode_of e.story.recoveries) (last_of e.story.survivor e.walk) e.told.episodes e.last_noted.episodes_more) episodes;
      }
