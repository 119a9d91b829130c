-- What is known of a session that follows doesn't tell how many items more have to be taken before a reply is passed.
use Rattle.recovery.specs.Handling.{Stand}
use Rattle.session_following.proofs.Terms.{List, [], inl, inr, ℕ, ◌∷◌, Entry, LinkEvent, Phases, Log, Ledger, Image, Override, Path, CpuState, Rules, Survivor, Carries, AsksForMore, Handed, HasHandled, Keeping, first_stands, starting_stands, KeepsRing, AreKept, HandlesRequests, keeping_of, SessionState, Since, HasJustBegun, IsFollowing, holding}
use Rattle.session_following.proofs.Handled.{WroteAs, all_wrote, begun_stands}

module _ (rules : Rules) (hold : ℕ) where
  kept_holding : (entries : List Entry) (log : Log) (ledger : Ledger) (ring : List Path) → AreKept rules entries log ledger ring → AreKept (holding rules hold) entries log ledger ring
  kept_holding entries log ledger [] are = tt
  kept_holding entries log ledger (newest ∷ older) are = (
    record {
      lives = are.0.lives;
      goes = record { bounded = are.0.goes.bounded; within = are.0.goes.within; opened = are.0.goes.opened; timed = are.0.goes.timed; sendable = are.0.goes.sendable };
      items = are.0.items;
      sends = are.0.sends;
    },
    kept_holding entries log ledger older are.1,
  )

  wrote_holding : (image : Image) (survivor : Survivor) → WroteAs rules image [] survivor (holding rules hold) survivor
  wrote_holding image survivor = record {
    each = λ pages from to count w. record {
      checkpoint = w.checkpoint;
      is_checkpoint = w.is_checkpoint;
      taken_is = w.taken_is;
      request = w.request;
      asks = w.asks;
      begins = w.begins;
      goes = w.goes;
      later = w.later;
      flags = w.flags;
      wrote = w.wrote;
      count_is = w.count_is;
    };
  }

  handled_holding : (image : Image) (keeping : Keeping) (survivor : Survivor) (requests : ℕ) (stands : List Stand) → HasHandled rules image keeping [] [] [] survivor requests stands → HasHandled (holding rules hold) image keeping [] [] [] survivor requests stands
  handled_holding image keeping survivor requests stands h = record {
    followed = h.followed;
    before = record { many = h.before.many; pages = all_wrote keeping 0 h.followed (first_stands keeping) (wrote_holding image _) h.before.pages };
    earlier = [];
    begun = h.begun;
    rings = begun_stands rules image keeping (starting_stands keeping h.followed) h.begun h.earlier h.rings;
    written = h.written;
    many = h.many;
    pages = all_wrote keeping survivor.begun.state.machine.taken h.written h.begun (wrote_holding image survivor) h.pages;
    stands_are = h.stands_are;
  }

  requests_holding : (image : Image) (keeping : Keeping) (survivor : Survivor) (stands : List Stand) → HandlesRequests rules image keeping [] [] [] survivor stands → HandlesRequests (holding rules hold) image keeping [] [] [] survivor stands
  requests_holding image keeping survivor stands (inl h) = inl (handled_holding image keeping survivor survivor.now.state.machine.taken stands h)
  requests_holding image keeping survivor stands (inr h) = inr (h.0, handled_holding image keeping survivor _ stands h.1, h.2)

  carries_holding : (image : Image) (entries : List Entry) (plan : List Override) (now : Path) → Carries rules image entries plan now → Carries (holding rules hold) image entries plan now
  carries_holding image entries plan now c = record { served = c.served; taken = c.taken; covers = c.covers; feasible = c.feasible; ordered = c.ordered; timed = c.timed }

  pub asks_holding : (image : Image) (handed : Handed) (events : List LinkEvent) → AsksForMore rules image handed events → AsksForMore (holding rules hold) image handed events
  asks_holding image handed events a = record { path = a.path; ran = a.ran; asks = a.asks; not_yet = a.not_yet }

module _ {R : Type 0} (rules : Rules) (hold : ℕ) where
  ring_holding : (image : Image) (entries : List Entry) (plan : List Override) (now : Path) (ring : List Path) (cpu : CpuState R) (log : Log) (ledger : Ledger) → KeepsRing rules image entries plan now ring cpu log ledger
      → KeepsRing (holding rules hold) image entries plan now ring cpu log ledger
  ring_holding image entries plan now ring cpu log ledger k = record {
    some = k.some;
    chained = k.chained;
    are = k.are;
    kept = kept_holding rules hold entries log ledger ring k.kept;
    saved = k.saved;
    newest = k.newest;
    window = k.window;
    wrote = k.wrote;
  }

  begun_holding : {image : Image} {began : Since} {phases : Phases} {session : SessionState R} → HasJustBegun rules image began phases session → HasJustBegun (holding rules hold) image began phases session
  begun_holding {image = image} {session = session} f = record {
    sound = record { heeded = f.sound.heeded; carries = carries_holding rules hold image [] _ _ f.sound.carries };
    answers = f.answers;
    goes = record {
      lives = f.goes.lives;
      guest = f.goes.guest;
      bounded = f.goes.bounded;
      few = f.goes.few;
      within = f.goes.within;
      items = f.goes.items;
      events = f.goes.events;
      phases_are = f.goes.phases_are;
    };
    saved = record {
      paths = f.saved.paths;
      ring = ring_holding image [] _ _ f.saved.paths session.cpu session.log session.replies f.saved.ring;
      early = f.saved.early;
      requests = requests_holding rules hold image (keeping_of session) _ _ f.saved.requests;
      in_force = f.saved.in_force;
    };
    replies = f.replies;
    no_trial = f.no_trial;
  }

module _ {R : Type 0} where
  pub following_holding : {rules : Rules} {image : Image} {handed : Handed} {events : List LinkEvent} {now : Path} {began : Since} {phases : Phases} {session : SessionState R} (hold : ℕ) → IsFollowing rules image handed events now began phases session
      → IsFollowing (holding rules hold) image handed events now began phases session
  following_holding {rules = rules} {image = image} {handed = handed} {events = events} {now = now} hold f = record {
    stands = begun_holding _ hold f.stands;
    env = f.env;
    until = f.until;
    some_keep = f.some_keep;
    before = f.before;
    asked = λ front back event split. asks_holding rules hold image handed front (f.asked front back event split);
  }
