-- Bytes that are taken and written in parts.
use borrow.Rule.Slice.PartMut.{put_mid, post_of}
use Rattle.rx_base.specs.declared.fault.IoFault.TheVariants as io
use Rattle.links.specs.declared.journal.LinkEvent.TheVariants as event
use Rattle.trunk_wire.proofs.Terms.{Err, List, None, Ok, Option, Result, Some, [], ap, append_assoc, arith, drop, inl, inr, length, length-append, refl, subst, sym, take, ℕ, ◌++◌, ◌+◌, ◌<◌, ◌∙◌, ◌≡◌, ◌≤◌, take-append-add, length-take-le, take-append-drop, take-append-le, Appends, IoFault, Stream, Took, Prefix, LinkEvent, LinkFault, Memory, ReadFault, Refused, WriteFault, Phases, Header, FitsTwoBytes, IsFrameOf, header_bytes, piece_frame, Part, event_of, front, header_refusal, Behind, Brings, IsRefused, Reads, TakesBy, Writes, WritesAll, WritesBy, count_after, read_fault, write_fault, reads_more, writes_more}
use Rattle.trunk_wire.proofs.GrammarLemmas.{front-refused, front-cut, frame-passes, passes_all}

-- what stands in a buffer once its part from a on was filled up to n
pub take-put_mid_front : (a k n : ℕ) (xs ys : List ℕ) → a ≤ length xs → n ≤ length ys → take (a + n) (put_mid a k xs ys) ≡ take a xs ++ take n ys
take-put_mid_front a k n xs ys within short =
    ap (λ m. take (m + n) (put_mid a k xs ys)) (sym (length-take-le a xs within))
    ∙ take-append-add (take a xs) (ys ++ post_of a k xs) n
    ∙ ap (λ bytes. take a xs ++ bytes) (take-append-le n ys (post_of a k xs) short)

-- a buffer has room for what was put into it
pub put_mid_room : (a k n : ℕ) (xs ys : List ℕ) → a ≤ length xs → n ≤ length ys → a + n ≤ length (put_mid a k xs ys)
put_mid_room a k n xs ys within short =
    omega (arith, length-append (take a xs) (ys ++ post_of a k xs), length-append ys (post_of a k xs), length-take-le a xs within)

pub split_whole : (n : ℕ) (front rest whole : List ℕ) → front ++ rest ≡ whole → (front ++ take n rest) ++ drop n rest ≡ whole
split_whole n front rest whole e = append_assoc front (take n rest) (drop n rest) ∙ ap (λ l. front ++ l) (take-append-drop n rest) ∙ e

-- the last byte of those that fill a part was taken and counted
pub reads_counted : (old new : Option Stream) (before now : ℕ) (bytes : List ℕ) (n : ℕ) → Took old new bytes → length bytes ≡ n → now ≡ count_after before n → Reads old new before now bytes
reads_counted old new before now bytes n took counted count = record { took = took; count = count ∙ ap (count_after before) (sym counted) }

-- what was taken behind a header, by what it is with the header before it
brings_frame : (drained : Type 0) (event : LinkEvent) (bytes : List ℕ) → IsFrameOf event bytes → Brings drained event bytes
brings_frame drained (event.Opens conn) bytes is = is
brings_frame drained (event.Piece conn payload) bytes is = is
brings_frame drained (event.Closes conn) bytes is = is
brings_frame drained event.Settles bytes is = is
brings_frame drained event.Ends bytes is = absurd is

pub rest_refused : (phases : Phases) (header : Header) (Taken : List ℕ → Type 0) (drained : Type 0) (kind : ℕ) → FitsTwoBytes header.conn → FitsTwoBytes header.length → header_refusal phases header ≡ Some kind
    → Taken [] → (bytes : List ℕ) × Behind (header_bytes header) Taken bytes × IsRefused phases drained kind bytes
rest_refused phases header Taken drained kind conn_few few refused taken =
    (header_bytes header ++ [], ([], refl, taken), inl (front-refused phases header kind conn_few few refused, refl))

pub rest_cut : (phases : Phases) (header : Header) (Taken : List ℕ → Type 0) (payload : List ℕ) → FitsTwoBytes header.conn → FitsTwoBytes header.length → header_refusal phases header ≡ None
    → Taken payload → length payload < header.length → (bytes : List ℕ) × Behind (header_bytes header) Taken bytes × (front phases bytes ≡ Part)
rest_cut phases header Taken payload conn_few few passes taken short =
    (header_bytes header ++ payload, (payload, refl, taken), front-cut phases header payload conn_few few passes short)

pub rest_truncated : (phases : Phases) (header : Header) (Taken : List ℕ → Type 0) (drained : Type 0) (payload : List ℕ) → FitsTwoBytes header.conn → FitsTwoBytes header.length → header_refusal phases header ≡ None
    → Taken payload → length payload < header.length → drained → (bytes : List ℕ) × Behind (header_bytes header) Taken bytes × IsRefused phases drained 5 bytes
rest_truncated phases header Taken drained payload conn_few few passes taken short end =
    (header_bytes header ++ payload, (payload, refl, taken), inr (refl, front-cut phases header payload conn_few few passes short, omega arith, end))

pub rest_whole : (phases : Phases) (header : Header) (Taken : List ℕ → Type 0) (drained : Type 0) (payload : List ℕ) → FitsTwoBytes header.length → header_refusal phases header ≡ None
    → Taken payload → length payload ≡ header.length → (bytes : List ℕ) × Behind (header_bytes header) Taken bytes × Brings drained (event_of header payload) bytes
rest_whole phases header Taken drained payload few passes taken counted = (
  header_bytes header ++ payload,
  (payload, refl, taken),
  brings_frame drained (event_of header payload) (header_bytes header ++ payload) (frame-passes phases header payload (passes_all phases header passes) few counted),
)

-- after a fault of the source a part was taken
pub takes_fault : (phases : Phases) (Taken : List ℕ → Type 0) (drained : Type 0) (fault : IoFault) → (bytes : List ℕ) × Taken bytes × (front phases bytes ≡ Part) → TakesBy phases Taken drained (Err (read_fault fault))
takes_fault phases Taken drained io.Failed part = part
takes_fault phases Taken drained io.Memory part = part

-- what was taken is told in another way
pub takes_as : (phases : Phases) (Taken Other : List ℕ → Type 0) (drained : Type 0) (result : Result LinkEvent LinkFault) → ((bytes : List ℕ) → Taken bytes → Other bytes)
    → TakesBy phases Taken drained result → TakesBy phases Other drained result
takes_as phases Taken Other drained (Ok event) as_other taken = (taken.0, as_other taken.0 taken.1, taken.2)
takes_as phases Taken Other drained (Err (Refused kind offset)) as_other taken = (taken.0, as_other taken.0 taken.1, taken.2)
takes_as phases Taken Other drained (Err ReadFault) as_other taken = (taken.0, as_other taken.0 taken.1, taken.2)
takes_as phases Taken Other drained (Err Memory) as_other taken = (taken.0, as_other taken.0 taken.1, taken.2)
takes_as phases Taken Other drained (Err WriteFault) as_other taken = absurd taken

-- a header was read, and then what is behind it
pub reads_behind : (old mid new : Option Stream) (before between now : ℕ) (first bytes : List ℕ) → Reads old mid before between first → Behind first (Reads mid new between now) bytes → Reads old new before now bytes
reads_behind old mid new before between now first bytes read (rest, is, taken) =
    subst (Reads old new before now) (sym is) (reads_more old mid new before between now first rest read taken)

pub writes_counted : (old new : Option (List ℕ)) (before now : ℕ) (bytes : List ℕ) (n : ℕ) → Appends old new bytes → length bytes ≡ n → now ≡ count_after before n → Writes old new before now bytes
writes_counted old new before now bytes n wrote counted count = record { wrote = wrote; count = count ∙ ap (count_after before) (sym counted) }

-- a front of a front is a front, and one that goes on behind it is one too
pub Prefix-append : (front first second : List ℕ) → Prefix front first → Prefix front (first ++ second)
Prefix-append front first second (rest, e) = (rest ++ second, sym (append_assoc front rest second) ∙ ap (λ l. l ++ second) e)

pub Prefix-behind : (first front second : List ℕ) → Prefix front second → Prefix (first ++ front) (first ++ second)
Prefix-behind first front second (rest, e) = (rest, append_assoc first front rest ∙ ap (λ l. first ++ l) e)

-- a first part was written whole, and then a second one, or after a fault some of it
pub writes_all_behind : (old mid new : Option (List ℕ)) (before between now : ℕ) (first second : List ℕ) (result : Result (Unit {0}) IoFault)
    → Writes old mid before between first → WritesAll (Writes mid new between now) second result → WritesAll (Writes old new before now) (first ++ second) result
writes_all_behind old mid new before between now first second (Ok done) wrote rest = writes_more old mid new before between now first second wrote rest
writes_all_behind old mid new before between now first second (Err fault) wrote (front, is, rest) =
    (first ++ front, Prefix-behind first front second is, writes_more old mid new before between now first front wrote rest)
