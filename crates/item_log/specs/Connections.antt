-- Which connections are open, and the bytes of their messages that aren't whole yet.
use Rattle.std.specs.Prelude.{ℕ, List, Bool, true, not, ◌&&◌, nat_lt, Option, None, is_some, slice_index_or, replicate}
use Rattle.item_log.specs.Terms.{LinkEvent, Closes, Ends, Opens, Piece, Settles, CONNECTIONS}

-- no connection is open
unfoldable pub none_open : List (Option (List ℕ))
none_open = replicate CONNECTIONS None

-- the bytes of a connection's message that isn't whole yet, if the connection is open
abbrev pub rest_of : List (Option (List ℕ)) → ℕ → Option (List ℕ)
rest_of rests conn = slice_index_or rests conn None

-- a connection opened, and its close wasn't heard
abbrev pub is_open : List (Option (List ℕ)) → ℕ → Bool
is_open rests conn = is_some (rest_of rests conn)

-- a connection opens where it isn't open, and sends and closes where it is
abbrev pub in_order : List (Option (List ℕ)) → LinkEvent → Bool
in_order rests (Opens conn) = nat_lt conn CONNECTIONS && not (is_open rests conn)
in_order rests (Piece conn piece) = is_open rests conn
in_order rests (Closes conn) = is_open rests conn
in_order rests Settles = true
in_order rests Ends = true
