-- A session that follows meets what the parts of an ordinary one ask for: it waits for an item, and a send may be noted.
use Rattle.run_history.specs.Call.{may_send}
use Rattle.link_gate.specs.Passing.{AreStampedBy}
use Rattle.recovery.proofs.Sending.{between_behind, times_low}
use Rattle.session_state.proofs.passing.PassLemmas.{stamped_by}
use Rattle.session_following.proofs.Terms.{List, [], ap, append-nil, arith, drop, inl, inr, refl, subst, sym, take, true, ℕ, ◌+◌, ◌<◌, ◌∙◌, ◌≡◌, cases_lt, Send, LinkEvent, Grew, Phases, Seen, IsOpened, NotBefore, times_of, Shows, Image, AsksFor, Path, items_in, Rules, Noted, asks_under_all, held_is_in_order, Handed, held, plan_of, TellsMore, AreTables, SessionState, EndsWithin, IsWaitingFor, Since, plan_up_to, IsFollowing, rules_following, marked, nothing_told}
use Rattle.session_following.proofs.Rebased.{just_hearing}
use Rattle.session_following.proofs.Steps.{IsMarked}

module _ {R : Type 0} where
  -- its environment is in force up to the next item alone, for which it asks: so it ends within as many items as environments are kept for
  ends_following : {rules : Rules} {image : Image} {handed : Handed} {events : List LinkEvent} {now : Path} {began : Since} {phases : Phases} {session : SessionState R} → IsFollowing rules image handed events now began phases session
      → AsksFor rules.limits (plan_up_to rules.limits.base (plan_of rules.limits.keep handed.episodes) now.state.machine.taken) now now.state.machine.taken → EndsWithin rules.limits session.until now
  ends_following {rules = rules} {handed = handed} {now = now} {session = session} f asks =
      elim (cases_lt session.until (now.state.machine.taken + rules.limits.keep)) [
        | inl less ↦ inl less
        | inr most ↦ inr (omega (arith, f.until, f.some_keep, most), asks_under_all rules.limits (plan_up_to rules.limits.base (plan_of rules.limits.keep handed.episodes) now.state.machine.taken) [] now now.state.machine.taken asks)
      ]

  -- it waits for an item, where it holds back more items than it may receive
  pub waiting_following : {rules : Rules} {image : Image} {handed : Handed} {events : List LinkEvent} {now : Path} {began : Since} {seen : Seen} {session : SessionState R} → IsFollowing rules image handed events now began seen.phases session → began.told ≡ seen.told → began.lost ≡ 0
      → Grew began.noted_before.episodes began.noted.episodes [] → TellsMore began.tables_before began.tables (AreTables (rules_following rules handed events now) [] [] []) → rules.bounds.max_items < rules.hold
      → AsksFor rules.limits (plan_up_to rules.limits.base (plan_of rules.limits.keep handed.episodes) now.state.machine.taken) now now.state.machine.taken → IsWaitingFor (rules_following rules handed events now) image began seen session
  waiting_following {rules = rules} {handed = handed} {events = events} {now = now} f told lost episodes tables most asks =
      just_hearing f.stands (ends_following f asks) told lost episodes tables asks (let few = f.stands.goes.few in omega (arith, few, most))

  -- a connection to which its guest may send was opened
  pub opened_following : {rules : Rules} {image : Image} {handed : Handed} {events : List LinkEvent} {now : Path} {began : Since} {phases : Phases} {session : SessionState R} (conn : ℕ) → IsFollowing rules image handed events now began phases session → may_send now.state.machine conn ≡ true → IsOpened session.replies conn
  opened_following conn f may = f.stands.replies.opened conn ∙ f.stands.goes.within conn may

  -- no send was made with more items taken, and nothing passed
  pub later_following : {rules : Rules} {image : Image} {handed : Handed} {events : List LinkEvent} {now : Path} {began : Since} {phases : Phases} {session : SessionState R} → IsFollowing rules image handed events now began phases session
      → NotBefore now.state.machine.taken (times_of session.replies.kept)
  later_following {now = now} {session = session} f =
      subst (λ (all : List Send). NotBefore now.state.machine.taken (times_of all)) (sym f.stands.replies.shows.kept)
      (times_low 0 now.state.machine.taken (drop session.replies.first now.state.sends) (between_behind session.replies.first 0 now.state.machine.taken now.state.sends f.stands.sound.carries.timed))

  pub stamped_following : {rules : Rules} {image : Image} {handed : Handed} {events : List LinkEvent} {now : Path} {began : Since} {phases : Phases} {session : SessionState R} → IsFollowing rules image handed events now began phases session
      → AreStampedBy now.state.machine.taken session.replies
  stamped_following {rules = rules} {image = image} {handed = handed} {events = events} {now = now} {session = session} f =
      stamped_by now.state.machine.taken (subst (Shows session.replies now.state.sends) (append-nil (held handed.counts now.state.sends)) f.stands.replies.shows)
      (held_is_in_order rules.limits (items_in (rules_following rules handed events now).bounds []) (plan_up_to rules.limits.base (plan_of rules.limits.keep handed.episodes) now.state.machine.taken) image now handed.counts f.stands.sound.carries.served)

pub is_marked : (before now : Noted) → IsMarked (marked before now) nothing_told
is_marked before now = record { told = refl; still = refl; tables_before = refl; tables = refl }

module _ {R : Type 0} where
  -- of what is told since, a session that follows looks at what its notes had alone
  pub since_following : {rules : Rules} {image : Image} {handed : Handed} {events : List LinkEvent} {now : Path} {began other : Since} {phases : Phases} {session : SessionState R} → other.noted_before ≡ began.noted_before → other.noted ≡ began.noted → IsFollowing rules image handed events now began phases session
      → IsFollowing rules image handed events now other phases session
  since_following {now = now} {began = began} {other = other} {session = session} before noted f =
      let a = f.stands.answers in
      record {
        stands = record {
          sound = f.stands.sound;
          answers = record {
            low = a.low;
            recorded =
                subst (λ (n : Noted). Grew n.choices other.noted.choices (take session.recorded now.choices)) (sym before)
                (subst (λ (n : Noted). Grew began.noted_before.choices n.choices (take session.recorded now.choices)) (sym noted) a.recorded);
            choices = a.choices;
            unnoted = ap (λ (n : Noted). n.unnoted) noted ∙ (a.unnoted ∙ sym (ap (λ (n : Noted). n.unnoted) before));
            taken = a.taken;
            steps = a.steps;
          };
          goes = f.stands.goes;
          saved = f.stands.saved;
          replies = f.stands.replies;
          no_trial = f.stands.no_trial;
        };
        env = f.env;
        until = f.until;
        some_keep = f.some_keep;
        before = f.before;
        asked = f.asked;
      }

  -- where it waits for an item, it does as an ordinary session, told so
  pub marked_following : {rules : Rules} {image : Image} {handed : Handed} {events : List LinkEvent} {now : Path} {before noted : Noted} (seen : Seen) {session : SessionState R} → IsFollowing rules image handed events now (marked before noted) seen.phases session → Grew before.episodes noted.episodes []
      → rules.bounds.max_items < rules.hold → AsksFor rules.limits (plan_up_to rules.limits.base (plan_of rules.limits.keep handed.episodes) now.state.machine.taken) now now.state.machine.taken
      → IsWaitingFor (rules_following rules handed events now) image (marked before noted) (record seen { told = nothing_told }) session
  marked_following seen f episodes most asks = waiting_following {seen = record seen { told = nothing_told }} f refl refl episodes ([], refl, tt) most asks
