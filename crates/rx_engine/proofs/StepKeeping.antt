-- What a send leaves of the replies of a session that follows: which connections are open, and which send is its first.
use Rattle.reply_ledger.proofs.ConnectionLemmas.{is_open-changed}
use Rattle.std.proofs.Common.{false}
use Rattle.std.specs.Prelude.{drop, take}
use Rattle.rx_engine.proofs.Terms.{ap, inl, inr, length, refl, ℕ, ◌≡◌, Bool, if◌then◌else◌, true, ◌==◌, ◌⊎◌, Send, sent_to, Ledger, is_open, passed_connection, passed_to, stamped, with_passed, with_send, HasSameOpen, with_held}

-- no connection was opened or closed where bytes were passed
open_passed : (ledger : Ledger) (conn count stamp q : ℕ) → is_open (with_passed ledger conn count stamp).connections q ≡ is_open ledger.connections q
open_passed ledger conn count stamp q =
    is_open-changed conn (passed_connection (stamped stamp (take count (drop (length (passed_to ledger conn)) (sent_to conn ledger.kept))))) (λ c. refl) (λ c. refl) ledger.connections q

open_as : (ledger : Ledger) (send : Send) (count : ℕ) (none : Bool) → HasSameOpen ledger (if none then with_send ledger send else with_passed (with_send ledger send) send.conn count send.taken)
open_as ledger send count true conn = refl
open_as ledger send count false conn = open_passed (with_send ledger send) send.conn count send.taken conn

first_as : (ledger : Ledger) (send : Send) (count : ℕ) (none : Bool) → (if none then with_send ledger send else with_passed (with_send ledger send) send.conn count send.taken).first ≡ ledger.first
first_as ledger send count true = refl
first_as ledger send count false = refl

-- nor where a send was noted, and no send was given up
pub open_held : (ledger : Ledger) (send : Send) (count : ℕ) → HasSameOpen ledger (with_held ledger send count)
open_held ledger send count = open_as ledger send count (count == 0)

pub first_held : (ledger : Ledger) (send : Send) (count : ℕ) → (with_held ledger send count).first ≡ ledger.first
first_held ledger send count = first_as ledger send count (count == 0)

-- where memory ran out as a send was noted
pub open_failed : {old new : Ledger} (send : Send) → (new ≡ old) ⊎ (new ≡ with_send old send) → HasSameOpen old new
open_failed send (inl same) conn = ap (λ (l : Ledger). is_open l.connections conn) same
open_failed send (inr same) conn = ap (λ (l : Ledger). is_open l.connections conn) same

pub first_failed : {old new : Ledger} (send : Send) → (new ≡ old) ⊎ (new ≡ with_send old send) → new.first ≡ old.first
first_failed send (inl same) = ap (λ (l : Ledger). l.first) same
first_failed send (inr same) = ap (λ (l : Ledger). l.first) same
