-- A session that takes over, before it followed anything, and where it begins to.
use Rattle.session_state.proofs.ending.StartLemmas.{starts_at, starts_between}
use Rattle.session_following.proofs.Terms.{Bool, List, Some, [], ap, arith, drop, inr, length, length-append, refl, subst, sym, take, ℕ, ◌++◌, ◌∙◌, ◌∷◌, ◌≡◌, ◌≤◌, Send, LinkEvent, grew_nothing, tells_nothing, Grew, IsFresh, Seen, Heap, Image, start, start_machine, Override, Path, env_at, origin, standing_of, served_same, items_in, nothing_before, Rules, Noted, start_taken, heard_alone, Handed, plan_of, alone, stands_of, KeepsRing, rules_in, rules_by, IsBegun, SessionState, Unfollowed, came_before, rules_after, before_begun, path_at, IsFollowing, followed_before, IsMissing, IsUnfollowed, IsUnfollowedBy, Follows, held_back, marked, nothing_told}
use Rattle.session_following.proofs.Following.{start_sends, started_following}
use Rattle.session_following.proofs.Holding.{following_holding}
use Rattle.session_following.proofs.Meets.{is_marked}
use Rattle.session_following.proofs.Moving.{start_before}
use Rattle.session_following.proofs.Turning.{past_following}

module _ {R : Type 0} where
  pub nothing_followed : {rules : Rules} {image : Image} {handed : Handed} {seen : Seen} {shown : Noted} {counted : ℕ} {session : SessionState R} (why : Unfollowed) → IsBegun image session.options session.cpu.rule session → counted ≡ 0
      → IsUnfollowedBy rules image handed seen.coming [] [] (origin image) why → IsUnfollowed rules image handed seen.told seen shown shown counted session why
  nothing_followed {rules = rules} {image = image} {handed = handed} {seen = seen} {shown = shown} {session = session} why begun none cause = record {
    events = [];
    last = [];
    now = origin image;
    ran = served_same rules.limits (items_in rules.bounds (heard_alone [])) (plan_of rules.limits.keep handed.episodes) (origin image);
    not_before = λ path there served less. absurd (let no_steps : (origin image).steps ≡ 0 = refl in omega (arith, less, no_steps));
    asked = λ front back event split. absurd (let no : length {A = LinkEvent} [] ≡ length (front ++ event ∷ back) = ap length split in omega (arith, no, length-append front (event ∷ back)));
    heard = tells_nothing seen.told;
    cause = cause;
    low = let no_steps : length (origin image).choices ≡ 0 = refl in omega (arith, begun.none_recorded, no_steps);
    noted = subst (λ (n : ℕ). Grew shown.choices shown.choices (take n [])) (sym begun.none_recorded) (grew_nothing shown.choices);
    episodes = grew_nothing shown.episodes;
    choices = begun.no_choices ∙ sym (ap (λ (n : ℕ). drop n []) begun.none_recorded);
    taken = begun.no_items ∙ sym (start_taken image (origin image) refl);
    steps = begun.no_steps;
    counted_all = λ any. none;
  }

-- a run at the start of its program, by its guest
start_there : (image : Image) → path_at (standing_of (origin image)) [] [] ≡ origin image
unfolding start start_machine
start_there image = refl

module _ {R : Type 0} where
  -- A session that was begun follows from the start of its program, once the start is its first checkpoint, in the environment of the report, and nothing is passed.
  pub begins_on : (permits : R → Heap → ℕ → ℕ → Bool) {image : Image} {handed : Handed} {seen : Seen} {shown : Noted} {missing : List ℕ} {old mid new : SessionState R} → IsBegun image old.options old.cpu.rule old → IsFresh seen.phases
      → ((any : Rules) → KeepsRing any image [] [] (origin image) (origin image ∷ []) mid.cpu old.log old.replies) → mid ≡ record old { cpu = mid.cpu } → mid.cpu.slots.live ≡ old.cpu.slots.live → mid.cpu.rule ≡ old.cpu.rule → stands_of mid.cpu.slots.saved ≡ alone 0 mid.cpu.slots.pages
      → IsMissing handed.counts [] missing → new ≡ record mid { env = new.env; until = 1; before = new.before; hold = 4294967295 } → new.env ≡ env_at old.options.base (plan_of old.options.keep handed.episodes) 0 → new.before ≡ before_begun mid.cpu.slots.live new.env
      → Follows (rules_by permits old) (rules_by permits new) image handed seen.told seen shown shown missing new
  begins_on permits {image = image} {handed = handed} {seen = seen} {shown = shown} {missing = missing} {old = old} {mid = mid} {new = new} begun fresh keeps same live rule stands lacks is env came =
      let rules : Rules = rules_by permits old in
      let plan : List Override = plan_of rules.limits.keep handed.episodes in
      let nothing : rules.bounds.before ≡ nothing_before = begun.nothing_came in
      let b = starts_between permits {image = image} {seen = record seen { told = nothing_told }} {noted = shown} {tables = Some []} {session = old} {after = mid} begun fresh keeps same live stands in
      let f = started_following handed nothing begun.in_range.some_keep b.going (is_marked shown shown) (ap (λ (s : SessionState R). s.steps) same ∙ begun.no_steps) in
      let after : new ≡ record mid { env = env_at rules.limits.base plan 0; until = 1; before = new.before; hold = 4294967295 } = is ∙ (λ i. record mid { env = env i; until = 1; before = new.before; hold = 4294967295 }) in
      let first : mid.cpu.slots.live ≡ standing_of (origin image) = live ∙ starts_at begun in
      let before_is : new.before ≡ followed_before rules.limits handed [] (origin image) =
      came ∙ ((λ i. before_begun (first i) (env i)) ∙ (ap (λ (p : Path). came_before [] [] (record { low = 0; until = 1; env = env_at rules.limits.base plan 0 } ∷ []) p) (start_there image) ∙ start_before rules.limits handed image)) in
      record {
        alone = nothing;
        hold_is = begun.hold_is ∙ sym (ap (λ (s : SessionState R). s.options.hold) is ∙ ap (λ (s : SessionState R). s.options.hold) same);
        events = [];
        now = origin image;
        follows = subst (λ (s : SessionState R). IsFollowing (held_back rules) image handed [] (origin image) (marked shown shown) seen.phases s) (sym after) (past_following new.before 4294967295 (following_holding 4294967295 f));
        here_is =
            (λ i. rules_in ((ap (λ (s : SessionState R). s.options) is ∙ ap (λ (s : SessionState R). s.options) same) i) new.before ((ap (λ (s : SessionState R). s.hold) is) i) (permits ((ap (λ (s : SessionState R). s.cpu.rule) is ∙ rule) i)))
            ∙ ap (rules_after (held_back rules)) before_is;
        heard = tells_nothing seen.told;
        episodes = grew_nothing shown.episodes;
        agree = inr (handed.choices, refl);
        missing_are = subst (λ (all : List Send). IsMissing handed.counts all missing) (sym (start_sends image)) lacks;
      }
