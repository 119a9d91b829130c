-- Calls on files, one run of them behind the other, and those that notes make.
use Rattle.file_notes.proofs.Terms.{Bool, Err, List, None, Ok, Option, Result, Some, [], ap, append-nil, append_assoc, length, refl, subst, sym, take, true, ℕ, ◌++◌, ◌∙◌, ◌∷◌, ◌≡◌, drop-append_seam, take-append_seam, take-append-drop, All-append, All-cons, All-nil, bytes_eq-Decides, All, bytes_eq, drop, false, ◌||◌, IoFault, Failed, Memory, FileCall, Added, Started, Calls, calls_of, Names, AddsAlone, CallsFront, CallsUpTo, is_addition, starts_of, taking_over, Called}

-- ---- runs of calls

pub calls_then : (old mid new : Option (List FileCall)) (first second : List FileCall) → Calls old mid first → Calls mid new second → Calls old new (first ++ second)
calls_then None mid new first second one two = tt
calls_then (Some old) None new first second one two = absurd one
calls_then (Some old) (Some mid) None first second one two = absurd two
calls_then (Some old) (Some mid) (Some new) first second one two = two ∙ ap (λ calls. calls ++ second) one ∙ append_assoc old first second

-- all of some calls, and behind them others, or some first ones of these
pub front_behind : (old mid new : Option (List FileCall)) (first second : List FileCall) → Calls old mid first → CallsFront mid new second → CallsFront old new (first ++ second)
front_behind old mid new first second one two = record {
  front = first ++ two.front;
  begins = (two.begins.0, append_assoc first two.front two.begins.0 ∙ ap (λ calls. first ++ calls) two.begins.1);
  made = calls_then old mid new first two.front one two.made;
}

pub calls_behind : {T E : Type 0} (old mid new : Option (List FileCall)) (first second : List FileCall) (result : Result T E) → Calls old mid first → CallsUpTo mid new second result → CallsUpTo old new (first ++ second) result
calls_behind old mid new first second (Ok done) one two = calls_then old mid new first second one two
calls_behind old mid new first second (Err fault) one two = front_behind old mid new first second one two

-- some first ones of calls, before which no more were made
pub front_first : {old new : Option (List FileCall)} (first second : List FileCall) → CallsFront old new first → CallsFront old new (first ++ second)
front_first first second made = record {
  front = made.front;
  begins = (made.begins.0 ++ second, sym (append_assoc made.front made.begins.0 second) ∙ ap (λ calls. calls ++ second) made.begins.1);
  made = made.made;
}

pub front_all : (old new : Option (List FileCall)) (calls : List FileCall) → Calls old new calls → CallsFront old new calls
front_all old new calls made = record { front = calls; begins = ([], append-nil calls); made = made }

-- ---- one file

-- one call, which may have failed
pub call_up_to : (old new : Option (List FileCall)) (call : FileCall) (result : Result (Unit {0}) IoFault) → Calls old new (calls_of call result) → CallsUpTo old new (call ∷ []) result
call_up_to old new call (Ok done) made = made
call_up_to old new call (Err Failed) made = front_all old new (call ∷ []) made
call_up_to old new call (Err Memory) made = record { front = []; begins = (call ∷ [], refl); made = made }

-- a file was started, and then added to
pub starts_calls : (old mid new : Option (List FileCall)) (name : List ℕ) (result : Result (Unit {0}) IoFault)
    → Calls old mid (calls_of (Started name) (Ok tt)) → Calls mid new (calls_of (Added name) result) → CallsUpTo old new (starts_of name) result
starts_calls old mid new name result started added = calls_behind old mid new (Started name ∷ []) (Added name ∷ []) result started (call_up_to mid new (Added name) result added)

-- ---- a session that takes over

pub taking_none : (names : Names) (old new : Option (List FileCall)) (fault : IoFault) → Calls old new (calls_of (Started names.record_name) (Err fault)) → CallsFront old new (taking_over names)
taking_none names old new fault made =
    front_first (Started names.record_name ∷ []) (Started names.report_name ∷ Added names.report_name ∷ Added names.record_name ∷ []) (call_up_to old new (Started names.record_name) (Err fault) made)

pub taking_part : (names : Names) (old mid new : Option (List FileCall)) → Calls old mid (Started names.record_name ∷ []) → CallsFront mid new (starts_of names.report_name) → CallsFront old new (taking_over names)
taking_part names old mid new one made =
    front_behind old mid new (Started names.record_name ∷ []) (Started names.report_name ∷ Added names.report_name ∷ Added names.record_name ∷ []) one
    (front_first (starts_of names.report_name) (Added names.record_name ∷ []) made)

pub taking_all : {T : Type 0} (names : Names) (old mid later new : Option (List FileCall)) (result : Result T IoFault) → Calls old mid (Started names.record_name ∷ []) → Calls mid later (starts_of names.report_name)
    → CallsUpTo later new (Added names.record_name ∷ []) result → CallsUpTo old new (taking_over names) result
taking_all names old mid later new result one two more =
    calls_behind old later new (Started names.record_name ∷ Started names.report_name ∷ Added names.report_name ∷ []) (Added names.record_name ∷ []) result
    (calls_then old mid later (Started names.record_name ∷ []) (starts_of names.report_name) one two) more

-- ---- notes

is_same : (name : List ℕ) → bytes_eq name name ≡ true
is_same name = (bytes_eq-Decides name name).1 refl

either : (a : Bool) → (a || true) ≡ true
either true = refl
either false = refl

record_is : (names : Names) → is_addition names (Added names.record_name) ≡ true
record_is names = ap (λ b. b || bytes_eq names.record_name names.report_name) (is_same names.record_name)

report_is : (names : Names) → is_addition names (Added names.report_name) ≡ true
report_is names = ap (λ b. bytes_eq names.report_name names.record_name || b) (is_same names.report_name) ∙ either (bytes_eq names.report_name names.record_name)

-- what the invariant says of calls, as what callers are told
pub added_alone : (names : Names) (before now : Option (List FileCall)) → Called names before now → AddsAlone names before now
added_alone names None now called = record { added = []; each = All-nil (λ call. is_addition names call ≡ true); made = tt }
added_alone names (Some before) None called = absurd called
added_alone names (Some before) (Some now) called = record {
  added = drop (length before) now;
  each = called.each;
  made = sym (take-append-drop (length before) now) ∙ ap (λ calls. calls ++ drop (length before) now) called.same;
}

-- and back
called_again : (names : Names) (before now : Option (List FileCall)) → AddsAlone names before now → Called names before now
called_again names None now adds = tt
called_again names (Some before) None adds = absurd adds.made
called_again names (Some before) (Some now) adds = record {
  same = ap (λ calls. take (length before) calls) adds.made ∙ take-append_seam before adds.added;
  each = subst (λ calls. All (λ call. is_addition names call ≡ true) calls) (sym (ap (λ calls. drop (length before) calls) adds.made ∙ drop-append_seam before adds.added)) adds.each;
}

-- some first ones of one call
one_each : (names : Names) (call : FileCall) → is_addition names call ≡ true → (front rest : List FileCall) → front ++ rest ≡ call ∷ [] → All (λ c. is_addition names c ≡ true) front
one_each names call is [] rest begins = All-nil (λ c. is_addition names c ≡ true)
one_each names call is (first ∷ []) rest begins =
    let same : first ≡ call = cc in
    All-cons (λ c. is_addition names c ≡ true) first [] (subst (λ c. is_addition names c ≡ true) (sym same) is) (All-nil (λ c. is_addition names c ≡ true))
one_each names call is (first ∷ second ∷ front) rest begins = cc

-- one call more was made, or none
adds_front : (names : Names) (call : FileCall) (before old new : Option (List FileCall)) → is_addition names call ≡ true → CallsFront old new (call ∷ []) → Called names before old → Called names before new
adds_front names call before old new is more called =
    let adds = added_alone names before old called in
    called_again names before new (record {
      added = adds.added ++ more.front;
      each = All-append (λ call. is_addition names call ≡ true) adds.added more.front adds.each (one_each names call is more.front more.begins.0 more.begins.1);
      made = calls_then before old new adds.added more.front adds.made more.made;
    })

-- a call was made that adds to one of the two, or none for want of memory
called_more : (names : Names) (call : FileCall) (before after old new : Option (List FileCall)) (result : Result (Unit {0}) IoFault) → is_addition names call ≡ true
    → CallsUpTo old new (call ∷ []) result → after ≡ before → Called names before old → Called names after new
called_more names call before after old new (Ok done) is more same called = subst (λ b. Called names b new) (sym same) (adds_front names call before old new is (front_all old new (call ∷ []) more) called)
called_more names call before after old new (Err fault) is more same called = subst (λ b. Called names b new) (sym same) (adds_front names call before old new is more called)

pub called_record : (names : Names) (before after old new : Option (List FileCall)) (result : Result (Unit {0}) IoFault)
    → CallsUpTo old new (Added names.record_name ∷ []) result → after ≡ before → Called names before old → Called names after new
called_record names before after old new result = called_more names (Added names.record_name) before after old new result (record_is names)

pub called_report : (names : Names) (before after old new : Option (List FileCall)) (result : Result (Unit {0}) IoFault)
    → CallsUpTo old new (Added names.report_name ∷ []) result → after ≡ before → Called names before old → Called names after new
called_report names before after old new result = called_more names (Added names.report_name) before after old new result (report_is names)
