-- The summary of a drill.
use Rattle.std.specs.Prelude.{ℕ, ◌+◌, ◌==◌, List, [], ◌∷◌, ◌++◌, length, codes, Option, None, Some, if◌then◌else◌, Result, Ok, Err}
use Rattle.rx_base.specs.declared.fault.IoFault.{IoFault}
use Rattle.links.specs.declared.journal.Entry.TheVariants as entry
use Rattle.run_history.specs.declared.answer.Answer.TheVariants as answer
use Rattle.drill.specs.Terms.{decimal, Appends, Prefix, Entry, Answer}
use Rattle.drill.specs.declared.summary.Summary.{Summary}

-- the payload of an entry: what was given to a connection
abbrev pub payload_of : Entry → List ℕ
payload_of (entry.Took event) = []
payload_of (entry.Gave conn bytes gone) = bytes

-- how many bytes were passed to all connections together
abbrev pub passed_bytes : List Entry → ℕ
passed_bytes [] = 0
passed_bytes (entry ∷ entries) = length (payload_of entry) + passed_bytes entries

-- The status of an end of a session; none where it was broken off, by a fault or want of memory.
abbrev pub end_status : Answer → Option ℕ
end_status answer.Finished = Some 0
end_status (answer.Exited code) = Some (if code == 0 then 0 else 1)
end_status (answer.InputRefused kind offset) = Some 4
end_status (answer.MessageTooLong conn) = Some 4
end_status (answer.GaveUp point cause) = Some 5
end_status answer.LimitItems = Some 6
end_status answer.LimitEvents = Some 6
end_status _ = None

-- five lines: the drill, the items that were taken, the episodes, the bytes that were passed, and the status of the session's end
unfoldable pub summary_text : ℕ → ℕ → Summary → List ℕ
summary_text seed count summary =
    codes "drill " ++ (decimal seed ++ (codes " " ++ (decimal count ++ ((10 ∷ codes "items ") ++ (decimal summary.items
    ++ ((10 ∷ codes "episodes ") ++ (decimal summary.episodes ++ ((10 ∷ codes "bytes ") ++ (decimal summary.bytes
    ++ ((10 ∷ codes "status ") ++ (decimal summary.status ++ 10 ∷ [])))))))))))

-- a sink has these bytes more, or after a fault some first ones of them
abbrev pub WritesAll : Option (List ℕ) → Option (List ℕ) → List ℕ → Result (Unit {0}) IoFault → Type 0
WritesAll old new bytes (Ok done) = Appends old new bytes
WritesAll old new bytes (Err fault) = (front : List ℕ) × Prefix front bytes × Appends old new front
