-- A trial sends bytes, or takes an item.
use Rattle.item_log.specs.Log as logs
use Rattle.reply_ledger.specs.Trials as ledgers
use Rattle.run_history.specs.Run.{does}
use Rattle.guest_cpu.specs.Receiving.{received_range, taken_standing, live_with_item}
use Rattle.guest_cpu.proofs.TakeLemmas.{takes_write, asks_wants}
use Rattle.session_notes.specs.declared.episode.Tried.TheVariants as tried
use Rattle.session_history.proofs.Passing.{all_until, until_grown}
use Rattle.link_gate.proofs.ItemLemmas.{item_is, item_fits, opened_items, received_is}
use Rattle.recovery.proofs.Terms.{Bool, List, None, Option, Some, [], ap, append-nil, arith, cond, drop, eqb, false, inl, inr, length, length-append, refl, subst, suc, sym, take, true, zero, ℕ, ◌++◌, ◌+◌, ◌-◌, ◌<◌, ◌^◌, ◌∙◌, ◌∷◌, ◌≡◌, ◌≤◌, ◌⊎◌, eqb-true, true≢false, drop-append-le, take-append-le, slice_get, unwrap_or, Item, Prefix, Send, sent_to, Choice, Env, IsItemOf, Log, IsOpened, Ledger, NotBefore, times_of, agree, discarded, trial_sends, with_trial_send, OpenWithin, within_after, prefix_sent, prefix_trans, sent_to-more, may_send, State, Wants, Path, CpuState, live_of, TakesOn, Live, Standing, with_range, TakesWriting, Writes, Grows, between_append, between_wider, served_on, events_of, heeded, received, AreSendable, IsSendable, opens, AreBetween, CoversBefore, IsFeasible, until, everywhere, IsContradicted, CanGoOn, Failure, items_of, pieces_of, HasCome, IsAsking, IsTrying, agrees_next, KeepsSaved}
use Rattle.recovery.proofs.Joining.{next_agrees, agree_more, differs_more, covers_before_now}
use Rattle.recovery.proofs.Starting.{failed_still}
use Rattle.recovery.proofs.Running.{SendsOn, unharmed_still, may_send_by, trying_room, wrote_on}
use Rattle.recovery.proofs.Coming.{beside, comes_at}
use Rattle.link_gate.proofs.ReplyLemmas.{sendable_then}

-- no send was made with more items taken than there are
pub times_low : (low high : ℕ) (all : List Send) → AreBetween low high all → NotBefore high (times_of all)
unfolding times_of
times_low low high [] between = tt
times_low low high (send ∷ all) between = (between.1, times_low low high all between.2)

pub between_behind : (n low high : ℕ) (all : List Send) → AreBetween low high all → AreBetween low high (drop n all)
between_behind zero low high all between = between
between_behind (suc n) low high [] between = between
between_behind (suc n) low high (send ∷ all) between = between_behind n low high all between.2

-- a connection to which nothing was sent, and a send to one that was opened
opened_then : (conn : ℕ) (sends : List Send) (send : Send) → (send.conn ≡ conn → ⊥) → sent_to conn sends ≡ [] → sent_to conn (sends ++ send ∷ []) ≡ []
opened_then conn sends send other none = of (eqb send.conn conn) refl
  where
    of : (b : Bool) → eqb send.conn conn ≡ b → sent_to conn (sends ++ send ∷ []) ≡ []
    of true same = absurd (other (eqb-true send.conn conn same))
    of false same = sent_to-more conn sends send ∙ (ap (λ (b : Bool). sent_to conn sends ++ cond b send.bytes []) same ∙ (append-nil (sent_to conn sends) ∙ none))

-- the sends of a run with one more
grows_send : (s t : State) (send : Send) → t.sends ≡ s.sends ++ send ∷ [] → t.machine.taken ≡ s.machine.taken → send.taken ≡ s.machine.taken → Grows s t
grows_send s t send sends taken at = record { more = send ∷ []; sends = sends; taken = omega (arith, taken); between = (omega (arith, at), omega (arith, at, taken), tt) }

-- a state that grew and took no item stays feasible
feasible_still : (pieces : List Send) (s t : State) → Grows s t → t.machine.taken ≡ s.machine.taken → IsFeasible pieces s → IsFeasible pieces t
feasible_still pieces s t grows taken feasible item low conn = prefix_trans _ _ _ (feasible item (omega (arith, low, taken)) conn) (prefix_sent conn (until item s.sends) (until item t.sends) (until_grown item s t grows))

-- one that took an item, before which it had sent all that was passed
feasible_taken : (pieces : List Send) (s t : State) → t.sends ≡ s.sends → t.machine.taken ≡ s.machine.taken + 1 → AreBetween 0 s.machine.taken s.sends → CoversBefore s.machine.taken pieces s → IsFeasible pieces s → IsFeasible pieces t
feasible_taken pieces s t sends taken timed covers feasible item low conn = of (Rattle.std.proofs.lemmas.Bool.cases_lt item s.machine.taken)
  where
    of : (item < s.machine.taken) ⊎ (s.machine.taken ≤ item) → Prefix (sent_to conn (until item pieces)) (sent_to conn (until item t.sends))
    of (inl before) = subst (λ (all : List Send). Prefix (sent_to conn (until item pieces)) (sent_to conn (until item all))) (sym sends) (feasible item before conn)
    of (inr at) =
        let same : item ≡ s.machine.taken = omega (arith, at, low, taken) in
        subst (λ (all : List Send). Prefix (sent_to conn (until item pieces)) (sent_to conn all)) (sym (ap (until item) sends ∙ all_until item 0 s.machine.taken s.sends at timed))
        (subst (λ n. Prefix (sent_to conn (until n pieces)) (sent_to conn s.sends)) (sym same) (covers conn))

module _ {R : Type 0} {failure : Failure} {point : ℕ} {checkpoint : Path} {env : Env} {old : CpuState R} {choices : List Choice} {log : Log} {ledger : Ledger} (t : IsTrying failure point checkpoint env old choices log ledger) where
  -- what the ledger asks of a send
  pub sends_opened : (conn : ℕ) → may_send t.path.state.machine conn ≡ true → IsOpened ledger conn
  sends_opened conn may = t.failed.has.replies.opened conn ∙ t.goes.within conn may

  pub sends_later : {taken : ℕ} → taken ≡ t.path.state.machine.taken → NotBefore taken (times_of (trial_sends ledger))
  sends_later {taken = taken} is =
      subst (λ (all : List Send). NotBefore taken (times_of all)) (sym (ap (λ (o : Option (List Send)). unwrap_or o []) t.sent))
      (subst (λ n. NotBefore n (times_of (drop ledger.first t.path.state.sends))) (sym is)
      (times_low 0 t.path.state.machine.taken (drop ledger.first t.path.state.sends) (between_behind ledger.first 0 t.path.state.machine.taken t.path.state.sends t.goes.timed)))

  module _ {conn : ℕ} {bytes : List ℕ} {live : Live} (s : SendsOn failure.rules.limits (items_of failure) (everywhere failure.rules.limits.keep env point) old.base t.path old.written conn bytes live) where
    -- its run can go on behind the send
    can_send : CanGoOn failure.rules failure.entries s.now
    can_send =
        let send : Send = record { conn = conn; bytes = bytes; taken = t.path.state.machine.taken } in
        let sendable : IsSendable send = record { some = s.some; few = s.few } in
        record {
          bounded = λ alive. s.goes.bounded alive (t.goes.bounded t.lives);
          within = λ q may. t.goes.within q (may_send_by t.path.state.machine s.now.state.machine q s.goes.connections may);
          opened = λ q shut. ap (sent_to q) s.sends
              ∙ opened_then q t.path.state.sends send
              (λ same. true≢false (sym (t.goes.within conn s.may) ∙ (ap (λ n. opens n (heeded failure.rules.bounds (events_of failure.rules.bounds failure.entries))) same ∙ shut)))
              (t.goes.opened q shut);
          timed = subst (AreBetween 0 s.now.state.machine.taken) (sym s.sends)
              (between_append 0 s.now.state.machine.taken t.path.state.sends (send ∷ [])
              (between_wider 0 t.path.state.machine.taken 0 s.now.state.machine.taken t.path.state.sends (omega arith) (omega (arith, s.goes.taken)) t.goes.timed)
              (omega arith, omega (arith, s.goes.taken), tt));
          sendable = subst AreSendable (sym s.sends) (sendable_then t.path.state.sends send t.goes.sendable sendable);
        }

    -- what comes next is compared with what was passed
    agrees_so : (taken : ℕ) {same : Bool} → agrees_next ledger (record { conn = conn; bytes = bytes; taken = taken }) ≡ same → agree bytes (drop (length (sent_to conn t.path.state.sends)) (sent_to conn (pieces_of failure))) ≡ same
    agrees_so taken same =
        sym (next_agrees (received failure.rules.bounds failure.entries) ledger failure.failed.state.sends t.path.state.sends (pieces_of failure) (record { conn = conn; bytes = bytes; taken = taken }) (beside t)) ∙ same

  -- what it sent is as it was passed: it goes on
  pub sends_same : {new : CpuState R} {after : Ledger} {conn : ℕ} {bytes : List ℕ} {taken : ℕ} (s : SendsOn failure.rules.limits (items_of failure) (everywhere failure.rules.limits.keep env point) old.base t.path old.written conn bytes (live_of new)) → KeepsSaved old new
      → taken ≡ t.path.state.machine.taken → after ≡ with_trial_send ledger (record { conn = conn; bytes = bytes; taken = taken }) → agrees_next ledger (record { conn = conn; bytes = bytes; taken = taken }) ≡ true → ledgers.Agrees after
      → IsTrying failure point checkpoint env new choices log after
  sends_same {after = after} {conn = conn} {bytes = bytes} {taken = taken} s saved is noted same agrees =
      let send : Send = record { conn = conn; bytes = bytes; taken = t.path.state.machine.taken } in
      let first : after.first ≡ ledger.first = ap (λ (l : Ledger). l.first) noted in
      record {
        failed = failed_still saved (ap discarded noted) t.failed;
        from = t.from;
        path = s.now;
        served = served_on failure.rules.limits (items_of failure) (everywhere failure.rules.limits.keep env point) checkpoint t.path s.now t.served s.goes.served;
        unharmed = record {
          agrees = λ q. subst (λ (all : List Send). agree (sent_to q all) (sent_to q (pieces_of failure)) ≡ true) (sym s.sends) (agree_more t.path.state.sends (pieces_of failure) send (agrees_so s taken same) t.unharmed.agrees q);
          feasible = feasible_still (pieces_of failure) t.path.state s.now.state (grows_send t.path.state s.now.state send s.sends s.goes.taken refl) s.goes.taken t.unharmed.feasible;
          early = omega (arith, t.unharmed.early, s.goes.taken);
        };
        lives = s.lives;
        stands = sym s.stands;
        wrote = wrote_on failure checkpoint t.path s.now saved t.wrote s.wrote;
        chose = s.choices ∙ t.chose;
        goes = can_send s;
        items = subst (λ n. log.first ≤ n) (sym s.goes.taken) t.items;
        many = omega (arith, first, t.many, ap length s.sends, length-append t.path.state.sends (send ∷ []));
        front = subst (λ n. take n s.now.state.sends ≡ take n failure.failed.state.sends) (sym first) (ap (take ledger.first) s.sends ∙ (take-append-le ledger.first t.path.state.sends (send ∷ []) t.many ∙ t.front));
        sent = ap (λ (l : Ledger). l.trial) noted
            ∙ (ap (λ (o : Option (List Send)). Some (unwrap_or o [] ++ record { conn = conn; bytes = bytes; taken = taken } ∷ [])) t.sent
            ∙ (ap (λ n. Some (drop ledger.first t.path.state.sends ++ record { conn = conn; bytes = bytes; taken = n } ∷ [])) is
            ∙ (ap (λ (all : List Send). Some all) (sym (drop-append-le ledger.first t.path.state.sends (send ∷ []) t.many)) ∙ sym (λ i. Some (drop (first i) (s.sends i))))));
        agrees = agrees;
      }

  -- it differs: the trial is contradicted
  pub sends_other : {new : CpuState R} {after : Ledger} {conn : ℕ} {bytes : List ℕ} (taken : ℕ) (s : SendsOn failure.rules.limits (items_of failure) (everywhere failure.rules.limits.keep env point) old.base t.path old.written conn bytes (live_of new))
      → KeepsSaved old new → agrees_next ledger (record { conn = conn; bytes = bytes; taken = taken }) ≡ false → HasCome failure point checkpoint env new choices after tried.Contradicts
  sends_other {conn = conn} {bytes = bytes} taken s saved other =
      let send : Send = record { conn = conn; bytes = bytes; taken = t.path.state.machine.taken } in
      let contradicted : IsContradicted failure.rules.limits (items_of failure) (everywhere failure.rules.limits.keep env point) checkpoint (pieces_of failure) point s.now = record {
        before = s.before;
        from = served_on failure.rules.limits (items_of failure) (everywhere failure.rules.limits.keep env point) checkpoint t.path s.before t.served s.quiet.served;
        unharmed = unharmed_still (pieces_of failure) point t.path.state s.before.state s.silent.sends s.quiet.taken t.unharmed;
        next = s.next;
        no_item = s.goes.taken ∙ sym s.quiet.taken;
        conn = conn;
        differs = subst (λ (all : List Send). agree (sent_to conn all) (sent_to conn (pieces_of failure)) ≡ false) (sym s.sends) (differs_more t.path.state.sends (pieces_of failure) send (agrees_so s taken other) t.unharmed.agrees);
      } in
      comes_at failure env s.now tried.Contradicts t.failed.some_keep t.from (served_on failure.rules.limits (items_of failure) (everywhere failure.rules.limits.keep env point) checkpoint t.path s.now t.served s.goes.served) contradicted (sym s.stands) (wrote_on failure checkpoint t.path s.now saved t.wrote s.wrote)
      (s.choices ∙ t.chose) (can_send s) (λ survived. absurd (let no : ⊥ = cc in no))

module _ {R : Type 0} {failure : Failure} {point : ℕ} {checkpoint : Path} {env : Env} {old : CpuState R} {choices : List Choice} {log : Log} {ledger : Ledger} (a : IsAsking failure point checkpoint env old choices log ledger) where
  -- its instruction is a recv whose buffer may be written
  pub takes_wants : does None None old.slots.live.guest.machine ≡ Wants
  takes_wants = subst (λ (s : Standing). does None None s.guest.machine ≡ Wants) (sym a.trying.stands) (asks_wants failure.rules.limits (everywhere failure.rules.limits.keep env point) a.trying.path a.trying.path.state.machine.taken a.asks)

  -- there is room for one instruction more
  pub takes_room : old.slots.live.steps < 2 ^ 64 - 1
  takes_room = omega (arith, trying_room a.trying)

  -- the log has the item of its number
  pub takes_kept : {taken : ℕ} → taken ≡ a.trying.path.state.machine.taken → (taken ≡ point → ⊥) → (log.first ≤ taken) × (taken < logs.received log)
  takes_kept is other =
      let h = a.trying.failed.has in
      (omega (arith, is, a.trying.items), omega (arith, is, other, a.trying.unharmed.early, received_is failure.rules.bounds failure.entries log h.items, h.taken, a.trying.failed.point_is))

  pub takes_short : (taken : ℕ) (item : Item) → IsItemOf log taken item → length item.bytes < 2 ^ 32
  takes_short taken item of_events =
      item_fits failure.rules.bounds.framing (heeded failure.rules.bounds (events_of failure.rules.bounds failure.entries)) taken item (item_is failure.rules.bounds failure.entries log taken item a.trying.failed.has.items of_events)

  -- it takes the item, before which it had sent all that was passed
  pub takes_next : {new : CpuState R} (taken : ℕ) (item : Item) → KeepsSaved old new
      → taken ≡ a.trying.path.state.machine.taken → (taken ≡ point → ⊥) → ledgers.CoversBefore ledger taken → IsItemOf log taken item → live_of new ≡ live_with_item old.base item (live_of old) → IsTrying failure point checkpoint env new choices log ledger
  takes_next {new = new} taken item saved is other covers of_events live =
      let t = a.trying in
      let first : Path = t.path in
      let found : slice_get (items_of failure) taken ≡ Some item = item_is failure.rules.bounds failure.entries log taken item t.failed.has.items of_events in
      let both : TakesWriting failure.rules.limits (items_of failure) (everywhere failure.rules.limits.keep env point) old.base first old.written item (with_range old.base (received_range item first.state.machine) old.written) =
      takes_write failure.rules.limits (items_of failure) (everywhere failure.rules.limits.keep env point) old.base first old.written item a.asks (ap (slice_get (items_of failure)) (sym is) ∙ found) in
      let takes : TakesOn failure.rules.limits (items_of failure) (everywhere failure.rules.limits.keep env point) first item = both.took in
      let flags : new.written ≡ with_range old.base (received_range item first.state.machine) old.written =
      ap (λ (l : Live). l.written) live ∙ ap (λ (s : Standing). with_range old.base (received_range item s.guest.machine) old.written) t.stands in
      let now : Path = takes.now in
      let within : OpenWithin (λ conn. opens conn (heeded failure.rules.bounds (events_of failure.rules.bounds failure.entries)) ≡ true) first.state.machine.connections = record { each = t.goes.within } in
      let after : OpenWithin (λ conn. opens conn (heeded failure.rules.bounds (events_of failure.rules.bounds failure.entries)) ≡ true) now.state.machine.connections =
      subst (OpenWithin (λ conn. opens conn (heeded failure.rules.bounds (events_of failure.rules.bounds failure.entries)) ≡ true)) (sym takes.connections)
      (within_after (λ conn. opens conn (heeded failure.rules.bounds (events_of failure.rules.bounds failure.entries)) ≡ true) item first.state.machine.connections within (opened_items failure.rules.bounds failure.entries taken item found)) in
      let covered : CoversBefore first.state.machine.taken (pieces_of failure) first.state =
      subst (λ n. CoversBefore n (pieces_of failure) first.state) is (covers_before_now (received failure.rules.bounds failure.entries) taken ledger failure.failed.state.sends first.state.sends (pieces_of failure) (beside t) covers) in
      record {
        failed = failed_still saved refl t.failed;
        from = t.from;
        path = now;
        served = served_on failure.rules.limits (items_of failure) (everywhere failure.rules.limits.keep env point) checkpoint first now t.served takes.served;
        unharmed = record {
          agrees = λ conn. subst (λ (all : List Send). agree (sent_to conn all) (sent_to conn (pieces_of failure)) ≡ true) (sym takes.silent.sends) (t.unharmed.agrees conn);
          feasible = feasible_taken (pieces_of failure) first.state now.state takes.silent.sends takes.taken t.goes.timed covered t.unharmed.feasible;
          early = omega (arith, takes.taken, is, other, t.unharmed.early);
        };
        lives = takes.lives;
        stands = ap (λ (l : Live). l.standing) live ∙ (ap (taken_standing item) t.stands ∙ sym takes.stands);
        wrote = wrote_on failure checkpoint first now saved t.wrote
            (subst (λ (all : List Bool). Writes failure.rules.limits (items_of failure) old.base first old.written now all) (sym flags) both.wrote);
        chose = takes.silent.choices ∙ t.chose;
        goes = record {
          bounded = λ alive. takes.bounded (t.goes.bounded t.lives);
          within = after.each;
          opened = λ conn shut. ap (sent_to conn) takes.silent.sends ∙ t.goes.opened conn shut;
          timed = subst (AreBetween 0 now.state.machine.taken) (sym takes.silent.sends)
              (between_wider 0 first.state.machine.taken 0 now.state.machine.taken first.state.sends (omega arith) (omega (arith, takes.taken)) t.goes.timed);
          sendable = subst AreSendable (sym takes.silent.sends) t.goes.sendable;
        };
        items = omega (arith, t.items, takes.taken);
        many = subst (λ (all : List Send). ledger.first ≤ length all) (sym takes.silent.sends) t.many;
        front = ap (take ledger.first) takes.silent.sends ∙ t.front;
        sent = t.sent ∙ ap (λ (all : List Send). Some (drop ledger.first all)) (sym takes.silent.sends);
        agrees = t.agrees;
      }
