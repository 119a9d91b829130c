-- What a session that follows notes of a send: it is a send of its run, and what clients have of it is passed.
use Rattle.std.specs.Prelude.{ℕ, ◌-◌, ◌==◌, List, length, take, if◌then◌else◌}
use Rattle.session_following.specs.Terms.{Send, sent_to, Ledger, with_passed, with_send, count_of}

-- how many bytes of a send clients have, behind other sends
abbrev pub held_count : List (ℕ × ℕ) → List Send → Send → ℕ
held_count counts sends send = length (take (count_of counts send.conn - length (sent_to send.conn sends)) send.bytes)

-- a ledger with one more send, so many of whose first bytes are passed, with the number of items that were taken
abbrev pub with_held : Ledger → Send → ℕ → Ledger
with_held ledger send count = if count == 0 then with_send ledger send else with_passed (with_send ledger send) send.conn count send.taken
