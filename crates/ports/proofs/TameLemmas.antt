-- What the ports in memory do, over plain lists.
use Rattle.std.specs.List.{prefix_len}
use Rattle.std.proofs.lemmas.Bool.{lt-ltb}
use Rattle.std.proofs.Math.Seq.{take-add, take-append_seam}
use Rattle.ports.proofs.Terms.{Bool, List, None, Ok, Option, Some, [], ap, arith, cond, drop, false, if◌then◌else◌, length, nat_lt, not, refl, subst, suc, sym, take, true, zero, ℕ, ◌++◌, ◌+◌, ◌<◌, ◌∙◌, ◌∷◌, ◌≡◌, ◌≢◌, ◌≤◌, drop-drop, get_or-map, get_or-set_other, get_or-set_same, length-drop, length-map, map-set, nil_from_length, take-append-drop, min, position, slice_index_or, slice_set, unwrap_or, IoFault, Stream, fresh, piece_len, Takes, Input, Awaited, Ready, Accepts, Reads, Stops, IsReady, is_open, open_count, input_stream, streams_of, first_open, first_ready, is_ready, next_ready}
use Rattle.ports.specs.Streams.{TakesAt, after_taken, stream_at}

first_within : (connections : List Bool) → 0 < open_count connections → prefix_len (λ (b : Bool). not b) connections < length connections
first_within [] some = absurd (omega arith)
first_within (true ∷ connections) some = omega arith
first_within (false ∷ connections) some = let less = first_within connections some in omega arith

first_is : (connections : List Bool) → 0 < open_count connections → is_open (prefix_len (λ (b : Bool). not b) connections) connections ≡ true
first_is [] some = absurd (omega arith)
first_is (true ∷ connections) some = refl
first_is (false ∷ connections) some =
    let k : ℕ = prefix_len (λ (b : Bool). not b) connections in
    let e : 1 + k ≡ suc k = omega arith in
    ap (λ (n : ℕ). is_open n (false ∷ connections)) e ∙ first_is connections some

found : (n : ℕ) (test : Bool) → test ≡ true → unwrap_or (cond test (Some n) None) 0 ≡ n
found n test is = rw is refl

-- where one is open the first such is
pub first_open-is : (connections : List Bool) → 0 < open_count connections → is_open (first_open connections) connections ≡ true
first_open-is connections some =
    let n : ℕ = prefix_len (λ (b : Bool). not b) connections in
    ap (λ (conn : ℕ). is_open conn connections) (found n (nat_lt n (length connections)) (lt-ltb n (length connections) (first_within connections some))) ∙ first_is connections some

first_is_ready : (awaited : Awaited) (connections : List Bool) → (awaited.client ≡ false → 0 < open_count connections) → IsReady awaited connections (first_ready awaited connections)
first_is_ready awaited connections some = by awaited.client refl
  where
    by : (client : Bool) → awaited.client ≡ client → IsReady awaited connections (if client then Accepts else Reads (first_open connections))
    by true is = is
    by false is = first_open-is connections (some is)

line_is_ready : (awaited : Awaited) (connections : List Bool) (line : Ready) → is_ready awaited connections line ≡ true → IsReady awaited connections line
line_is_ready awaited connections Accepts is = is
line_is_ready awaited connections (Reads conn) is = is
line_is_ready awaited connections Stops is = is

picked_is_ready : (awaited : Awaited) (connections : List Bool) (line : Ready) (test : Bool) → is_ready awaited connections line ≡ test → (awaited.client ≡ false → 0 < open_count connections)
    → IsReady awaited connections (if test then line else first_ready awaited connections)
picked_is_ready awaited connections line true is some = line_is_ready awaited connections line is
picked_is_ready awaited connections line false is some = first_is_ready awaited connections some

-- what a script makes a wait answer can be answered
pub next_is_ready : (awaited : Awaited) (connections : List Bool) (script : List Ready) → (awaited.client ≡ false → 0 < open_count connections) → IsReady awaited connections (next_ready awaited connections script)
next_is_ready awaited connections [] some = first_is_ready awaited connections some
next_is_ready awaited connections (line ∷ lines) some = picked_is_ready awaited connections line (is_ready awaited connections line) refl some

none_left : (n most room : ℕ) (left : List ℕ) → n ≡ min (min most room) (length left) → 1 ≤ most → 0 < room → n ≡ 0 → drop n left ≡ []
none_left n most room left is goes_on some none = nil_from_length (drop n left) (let size = length-drop n left in omega arith)

took_front : (n : ℕ) (stream : Stream) → stream.left ≡ take n stream.left ++ drop n stream.left
took_front n stream = sym (take-append-drop n stream.left)

at_set : (begun : List Input) (conn : ℕ) (input : Input) → conn < length begun → stream_at conn (streams_of (slice_set begun conn input)) ≡ input_stream input
at_set begun conn input less =
    ap (λ (l : List Stream). stream_at conn l) (map-set input_stream begun conn input) ∙ get_or-set_same (streams_of begun) conn (input_stream input) (fresh []) (let size = length-map begun input_stream in omega arith)

at_other : (begun : List Input) (conn other : ℕ) (input : Input) → other ≢ conn → stream_at other (streams_of (slice_set begun conn input)) ≡ stream_at other (streams_of begun)
at_other begun conn other input differ =
    ap (λ (l : List Stream). stream_at other l) (map-set input_stream begun conn input) ∙ get_or-set_other (streams_of begun) conn other (input_stream input) (fresh []) differ

-- bytes were taken of one input
pub taken_at : (begun : List Input) (conn n most room : ℕ) (was input : Input) (buffer : List ℕ) → conn < length begun → stream_at conn (streams_of begun) ≡ input_stream was → input_stream input ≡ after_taken n (input_stream was)
    → n ≡ piece_len most room (input_stream was) → 1 ≤ most → 0 < room → take n buffer ≡ take n (input_stream was).left → TakesAt (streams_of begun) (streams_of (slice_set begun conn input)) conn buffer (Ok n)
taken_at begun conn n most room was input buffer less before after is goes_on some bytes =
    let now : stream_at conn (streams_of (slice_set begun conn input)) ≡ after_taken n (input_stream was) = at_set begun conn input less ∙ after in
    record {
      bytes = subst (λ (old : Stream). Takes {E = IoFault} (Some old) (Some (stream_at conn (streams_of (slice_set begun conn input)))) (Ok n) buffer) (sym before)
          (subst (λ (new : Stream). Takes {E = IoFault} (Some (input_stream was)) (Some new) (Ok n) buffer) (sym now) (
            (ap (λ (l : List ℕ). (input_stream was).taken ++ l) (sym bytes), took_front n (input_stream was) ∙ ap (λ (l : List ℕ). l ++ drop n (input_stream was).left) (sym bytes)),
            λ none. none_left n most room (input_stream was).left is goes_on some none,
          ));
      others = λ other differ. at_other begun conn other input differ;
    }

streams_same : (taken left more rest : List ℕ) → taken ≡ more → left ≡ rest → (let one : Stream = record { taken = taken; left = left } in let other : Stream = record { taken = more; left = rest } in one ≡ other)
streams_same taken left more rest one two =
    ap (λ (l : List ℕ). let made : Stream = record { taken = l; left = left } in made) one ∙ ap (λ (l : List ℕ). let made : Stream = record { taken = more; left = l } in made) two

-- so many bytes more were taken of an input
pub advanced : (at count : ℕ) (bytes : List ℕ) → (let one : Stream = record { taken = take (at + count) bytes; left = drop (at + count) bytes } in one ≡ after_taken count (record { taken = take at bytes; left = drop at bytes }))
advanced at count bytes =
    streams_same (take (at + count) bytes) (drop (at + count) bytes) (take at bytes ++ take count (drop at bytes)) (drop count (drop at bytes)) (take-add at count bytes) (sym (drop-drop count at bytes))

pub first_some : (connections : List Bool) (n : ℕ) → position (λ (b : Bool). b) connections ≡ Some n → first_open connections ≡ n
first_some connections n is = ap (λ (found_one : Option ℕ). unwrap_or found_one 0) is

pub first_none : (connections : List Bool) → position (λ (b : Bool). b) connections ≡ None → first_open connections ≡ 0
first_none connections is = ap (λ (found_one : Option ℕ). unwrap_or found_one 0) is

-- what is read of the inputs is read of their streams
pub read_at : (begun : List Input) (conn : ℕ) (was default : Input) → conn < length begun → was ≡ slice_index_or begun conn default → stream_at conn (streams_of begun) ≡ input_stream was
read_at begun conn was default less is = get_or-map input_stream begun conn default (fresh []) less ∙ ap input_stream (sym is)

-- what was copied to the front of a buffer
pub front_of : (piece copied rest left : List ℕ) (count : ℕ) → copied ≡ piece → piece ≡ take count left → length piece ≡ count → take (length piece) (copied ++ rest) ≡ take (length piece) left
front_of piece copied rest left count same is size =
    ap (λ (l : List ℕ). take (length piece) (l ++ rest)) same ∙ take-append_seam piece rest ∙ is ∙ ap (λ (k : ℕ). take k left) (sym size)
