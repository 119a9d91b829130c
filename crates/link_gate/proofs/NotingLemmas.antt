-- What noting a piece makes of a ledger, by the answer of its link.
use Rattle.links.specs.declared.journal.LinkFault.TheVariants as cause
use Rattle.rx_base.proofs.Composing.{rose_later}
use Rattle.link_gate.proofs.Terms.{Bool, List, [], ap, arith, cond, drop, eqb, false, length, length-drop, not, refl, subst, sym, true, ℕ, ◌++◌, ◌+◌, ◌<◌, ◌∙◌, ◌∷◌, ◌≡◌, ◌≤◌, and_parts, length-take-le, Err, Ok, Result, is_ok, is_some, sent_to, Given, All, Gone, LinkFault, Counts, HasGiveCause, GiveShows, Seen, but_given, is_open-changed, stamped_to-changed, stamped_to-passed, come, is_open-gone, room, room_gone, room_passed, room_passed_some, length-stamped, stamps_of-append, IsOpened, Ledger, NotBefore, Passed, connection_of, gone_connection, is_open, passed_connection, stamped, stamped_to, stamps_of, with_change, with_passed, PassFault, AreStampedBy, HasPassCause, HasSameSends, PassShows, IsNoted}
use Rattle.link_gate.specs.declared.pass_fault.PassFault.TheVariants as fault
use Rattle.link_gate.proofs.KeepLemmas.{known-changed, next_of}

-- an opened connection stays one
pub known_passed : (old new : Ledger) (conn count stamp q : ℕ) → new ≡ with_passed old conn count stamp → IsOpened old q → IsOpened new q
known_passed old new conn count stamp q is known =
    ap (λ (l : Ledger). is_some (connection_of l.connections q)) is ∙ known-changed conn (passed_connection (stamped stamp (next_of old conn count))) (λ c. refl) old.connections q ∙ known

pub known_gone : (old new : Ledger) (conn count stamp q : ℕ) → new ≡ with_change (with_passed old conn count stamp) conn gone_connection → IsOpened old q → IsOpened new q
known_gone old new conn count stamp q is known =
    ap (λ (l : Ledger). is_some (connection_of l.connections q)) is ∙ known-changed conn gone_connection (λ c. refl) (with_passed old conn count stamp).connections q ∙ known_passed old (with_passed old conn count stamp) conn count stamp q refl known

pub noted_known : (stamp conn count : ℕ) (old new : Ledger) (given : Result Given LinkFault) (done : Unit {0}) (q : ℕ) → IsNoted stamp conn count old new given (Ok done) → IsOpened old q → IsOpened new q
noted_known stamp conn count old new (Ok All) done q noted known = known_passed old new conn count stamp q noted known
noted_known stamp conn count old new (Ok (Gone front)) done q noted known = known_gone old new conn front stamp q noted known
noted_known stamp conn count old new (Err why) done q noted known = absurd noted

-- it changes nothing that was sent
same_sends : (old new : Ledger) → new ≡ old → HasSameSends old new
same_sends old new is = record { first = ap (λ (l : Ledger). l.first) is; kept = ap (λ (l : Ledger). l.kept) is; trial = ap (λ (l : Ledger). l.trial) is }

pub sends_again : (old mid new : Ledger) → HasSameSends old mid → HasSameSends mid new → HasSameSends old new
sends_again old mid new one other = record { first = other.first ∙ one.first; kept = other.kept ∙ one.kept; trial = other.trial ∙ one.trial }

pub noted_sends : (stamp conn count : ℕ) (old new : Ledger) (given : Result Given LinkFault) (result : Result (Unit {0}) PassFault) → IsNoted stamp conn count old new given result → HasSameSends old new
noted_sends stamp conn count old new (Ok All) (Ok done) noted = record { first = ap (λ (l : Ledger). l.first) noted; kept = ap (λ (l : Ledger). l.kept) noted; trial = ap (λ (l : Ledger). l.trial) noted }
noted_sends stamp conn count old new (Ok (Gone front)) (Ok done) noted = record { first = ap (λ (l : Ledger). l.first) noted; kept = ap (λ (l : Ledger). l.kept) noted; trial = ap (λ (l : Ledger). l.trial) noted }
noted_sends stamp conn count old new (Err why) (Ok done) noted = absurd noted
noted_sends stamp conn count old new (Ok given) (Err stopped) noted = same_sends old new noted.0
noted_sends stamp conn count old new (Err why) (Err stopped) noted = same_sends old new noted.0

open_passed : (old : Ledger) (conn count stamp q : ℕ) → is_open (with_passed old conn count stamp).connections q ≡ is_open old.connections q
open_passed old conn count stamp q = is_open-changed conn (passed_connection (stamped stamp (next_of old conn count))) (λ c. refl) (λ c. refl) old.connections q

pub noted_open : (stamp conn count : ℕ) (old new : Ledger) (given : Result Given LinkFault) (result : Result (Unit {0}) PassFault) (q : ℕ) → IsNoted stamp conn count old new given result → is_open new.connections q ≡ true → is_open old.connections q ≡ true
noted_open stamp conn count old new (Ok All) (Ok done) q noted opened = sym (ap (λ (l : Ledger). is_open l.connections q) noted ∙ open_passed old conn count stamp q) ∙ opened
noted_open stamp conn count old new (Ok (Gone front)) (Ok done) q noted opened =
    sym (open_passed old conn front stamp q)
    ∙ (and_parts (is_open (with_passed old conn front stamp).connections q) (not (eqb conn q)) (sym (ap (λ (l : Ledger). is_open l.connections q) noted ∙ is_open-gone conn (with_passed old conn front stamp).connections q) ∙ opened)).0
noted_open stamp conn count old new (Err why) (Ok done) q noted opened = absurd noted
noted_open stamp conn count old new (Ok given) (Err stopped) q noted opened = ap (λ (l : Ledger). is_open l.connections q) (sym noted.0) ∙ opened
noted_open stamp conn count old new (Err why) (Err stopped) q noted opened = ap (λ (l : Ledger). is_open l.connections q) (sym noted.0) ∙ opened

-- no stamp is above that of the piece
all_stamped : (stamp : ℕ) (bytes : List ℕ) → NotBefore stamp (stamps_of (stamped stamp bytes))
unfolding stamped stamps_of
all_stamped stamp [] = tt
all_stamped stamp (byte ∷ bytes) = (omega arith, all_stamped stamp bytes)

pub all_both : (stamp : ℕ) (xs ys : List ℕ) → NotBefore stamp xs → NotBefore stamp ys → NotBefore stamp (xs ++ ys)
all_both stamp [] ys one other = other
all_both stamp (x ∷ xs) ys one other = (one.0, all_both stamp xs ys one.1 other)

stamps_passed : (old : Ledger) (conn count stamp : ℕ) → IsOpened old conn → AreStampedBy stamp old → AreStampedBy stamp (with_passed old conn count stamp)
stamps_passed old conn count stamp known all q = subst (λ (l : List Passed). NotBefore stamp (stamps_of l)) (sym (stamped_to-passed conn more old.connections q known)) (of (eqb conn q))
  where
    more : List Passed
    more = stamped stamp (next_of old conn count)

    of : (b : Bool) → NotBefore stamp (stamps_of (cond b (stamped_to old.connections q ++ more) (stamped_to old.connections q)))
    of true = subst (NotBefore stamp) (sym (stamps_of-append (stamped_to old.connections q) more)) (all_both stamp (stamps_of (stamped_to old.connections q)) (stamps_of more) (all q) (all_stamped stamp (next_of old conn count)))
    of false = all q

stamps_gone : (old : Ledger) (conn stamp : ℕ) → AreStampedBy stamp old → AreStampedBy stamp (with_change old conn gone_connection)
stamps_gone old conn stamp all q = subst (λ (l : List Passed). NotBefore stamp (stamps_of l)) (sym (stamped_to-changed conn gone_connection (λ c. refl) (λ c. refl) old.connections q)) (all q)

pub noted_stamps : (stamp conn count : ℕ) (old new : Ledger) (given : Result Given LinkFault) (done : Unit {0}) → IsOpened old conn → IsNoted stamp conn count old new given (Ok done) → AreStampedBy stamp old → AreStampedBy stamp new
noted_stamps stamp conn count old new (Ok All) done known noted all = subst (AreStampedBy stamp) (sym noted) (stamps_passed old conn count stamp known all)
noted_stamps stamp conn count old new (Ok (Gone front)) done known noted all = subst (AreStampedBy stamp) (sym noted) (stamps_gone (with_passed old conn front stamp) conn stamp (stamps_passed old conn front stamp known all))
noted_stamps stamp conn count old new (Err why) done known noted all = absurd noted

-- less may still be passed
pub left : Ledger → ℕ
left ledger = room ledger.kept ledger.connections

left_passed : (old : Ledger) (conn count stamp : ℕ) → is_open old.connections conn ≡ true → 0 < count → come old.connections conn + count ≤ length (sent_to conn old.kept) → left (with_passed old conn count stamp) < left old
unfolding left
left_passed old conn count stamp opened some fits =
    let bytes : List ℕ = next_of old conn count in
    let long : length (stamped stamp bytes) ≡ count =
    length-stamped stamp bytes ∙ length-take-le count (drop (come old.connections conn) (sent_to conn old.kept)) (omega (arith, fits, length-drop (come old.connections conn) (sent_to conn old.kept))) in
    room_passed_some old.kept conn (stamped stamp bytes) old.connections opened (omega (arith, long, some)) (omega (arith, long, fits))

left_gone : (old : Ledger) (conn count stamp : ℕ) → is_open old.connections conn ≡ true → left (with_change (with_passed old conn count stamp) conn gone_connection) < left old
unfolding left
left_gone old conn count stamp opened =
    let falls = room_gone old.kept conn (with_passed old conn count stamp).connections (open_passed old conn count stamp conn ∙ opened) in
    omega (arith, room_passed old.kept conn (stamped stamp (next_of old conn count)) old.connections, falls)

pub noted_less : (stamp conn count : ℕ) (old new : Ledger) (given : Result Given LinkFault) (done : Unit {0}) → is_open old.connections conn ≡ true → 0 < count → come old.connections conn + count ≤ length (sent_to conn old.kept) → IsNoted stamp conn count old new given (Ok done) → left new < left old
noted_less stamp conn count old new (Ok All) done opened some fits noted = subst (λ (l : Ledger). left l < left old) (sym noted) (left_passed old conn count stamp opened some fits)
noted_less stamp conn count old new (Ok (Gone front)) done opened some fits noted = subst (λ (l : Ledger). left l < left old) (sym noted) (left_gone old conn front stamp opened)
noted_less stamp conn count old new (Err why) done opened some fits noted = absurd noted

-- no count fell up to here, and nothing was taken
pub record HasNoCause (before now : Counts) : Type 0 where
  pub later : before.gives ≤ now.gives
  pub gones : before.gones ≤ now.gones
  pub takes : now.takes ≡ before.takes

no_cause : (counts : Counts) → HasNoCause counts counts
no_cause counts = record { later = omega arith; gones = omega arith; takes = refl }

cause_done : (before now : Counts) → HasNoCause before now → HasPassCause {T = Unit {0}} before now (Ok tt)
cause_done before now none = record { later = none.later; write_fault = (λ h. absurd (let no : ⊥ = cc in no)); gones = none.gones; takes = none.takes }

-- a fault of writing is one of the link's
write_is : (stamp conn count : ℕ) (old new : Ledger) (given : Result Given LinkFault) (stopped : PassFault) → IsNoted stamp conn count old new given (Err stopped) → stopped ≡ fault.WriteFault → given ≡ Err cause.WriteFault
write_is stamp conn count old new (Ok given) stopped noted is = absurd (let no : ⊥ = cc (noted.1, is) in no)
write_is stamp conn count old new (Err cause.WriteFault) stopped noted is = refl
write_is stamp conn count old new (Err cause.Memory) stopped noted is = absurd (let no : ⊥ = cc (noted.1, is) in no)
write_is stamp conn count old new (Err cause.ReadFault) stopped noted is = absurd (let no : ⊥ = cc (noted.1, is) in no)
write_is stamp conn count old new (Err (cause.Refused kind offset)) stopped noted is = absurd (let no : ⊥ = cc (noted.1, is) in no)

cause_stopped : (before mid now : Counts) (stamp conn count : ℕ) (old new : Ledger) (given : Result Given LinkFault) (stopped : PassFault) → HasNoCause before mid → HasGiveCause mid now given → IsNoted stamp conn count old new given (Err stopped)
    → HasPassCause {T = Unit {0}} before now (Err stopped)
cause_stopped before mid now stamp conn count old new given stopped one other noted = record {
  later = omega (arith, one.later, other.later);
  write_fault = (λ h. rose_later before.gives mid.gives now.gives one.later (other.write_fault (write_is stamp conn count old new given stopped noted (let e : stopped ≡ fault.WriteFault = cc (h) in e))));
  gones = omega (arith, one.gones, other.later_gone);
  takes = other.takes ∙ one.takes;
}

-- behind a piece that was noted the link still gives
pub noted_gives : (stamp conn count : ℕ) (old new : Ledger) (given : Result Given LinkFault) (done : Unit {0}) → IsNoted stamp conn count old new given (Ok done) → is_ok given ≡ true
noted_gives stamp conn count old new (Ok given) done noted = refl
noted_gives stamp conn count old new (Err why) done noted = absurd noted

-- what a link shows while pieces are given to it, each whole or to a connection that was gone then
pub record HasGiven (old new : Seen) : Type 0 where
  pub cause : HasNoCause old.counts new.counts
  pub gives : new.gives ≡ true
  pub rest : new ≡ but_given old new

pub given_none : {seen : Seen} → seen.gives ≡ true → HasGiven seen seen
given_none gives = record { cause = no_cause _; gives = gives; rest = refl }

pub given_then : {old mid new : Seen} {conn : ℕ} {bytes : List ℕ} {given : Result Given LinkFault} → HasGiven old mid → GiveShows mid new conn bytes given → is_ok given ≡ true → HasGiven old new
given_then {old = old} {new = new} {given = given} one other well = record {
  cause = record { later = omega (arith, one.cause.later, other.cause.later); gones = omega (arith, one.cause.gones, other.cause.later_gone); takes = other.cause.takes ∙ one.cause.takes };
  gives = other.gives ∙ well;
  rest = other.rest ∙ ap (λ (seen : Seen). but_given seen new) one.rest;
}

-- so it is where all was passed, and behind a piece that failed or wasn't noted
pub given_done : {old new : Seen} → HasGiven old new → PassShows {T = Unit {0}} old new (Ok tt)
given_done has = record { cause = cause_done _ _ has.cause; gives = has.gives; stops = λ is. absurd (let no : ⊥ = cc in no); rest = has.rest }

pub given_stopped : {old mid new : Seen} {conn : ℕ} {bytes : List ℕ} (stamp count : ℕ) (ledger later : Ledger) (given : Result Given LinkFault) (stopped : PassFault) → HasGiven old mid → GiveShows mid new conn bytes given
    → IsNoted stamp conn count ledger later given (Err stopped) → PassShows {T = Unit {0}} old new (Err stopped)
given_stopped {new = new} {conn = conn} stamp count ledger later given stopped one other noted = record {
  cause = cause_stopped _ _ _ stamp conn count ledger later given stopped one.cause other.cause noted;
  gives = tt;
  stops = λ is. other.gives ∙ ap (λ (answered : Result Given LinkFault). is_ok answered) (write_is stamp conn count ledger later given stopped noted (let e : stopped ≡ fault.WriteFault = cc (is) in e));
  rest = other.rest ∙ ap (λ (seen : Seen). but_given seen new) one.rest;
}

-- a connection to which the link gave is given to still
pub still_given : {mid new : Seen} {conn : ℕ} {bytes : List ℕ} {given : Result Given LinkFault} → GiveShows mid new conn bytes given → (other : ℕ) → new.gives_to other ≡ mid.gives_to other
still_given shows other = ap (λ (seen : Seen). seen.gives_to other) shows.rest
