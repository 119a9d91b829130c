-- The entries of a memory's code, done one after another.
use Rattle.std.specs.Prelude.{◌-◌}
use Rattle.code_table.specs.Tables.{Table}
use Rattle.code_table.specs.declared.entry.EntryOp.TheVariants as op
use Rattle.guest_space.proofs.EntryLemmas.{word_of, fetches_code, entry_is, entry_stops, entry_linked, code_below, code_count}
use Rattle.rv_exec.proofs.Terms.{Bool, List, None, Ok, Some, ap, arith, false, inl, inr, refl, subst, sym, true, ℕ, ◌%◌, ◌+◌, ◌^◌, ◌∙◌, ◌≡◌, ◌≤◌, cases_lt, get_or-take, OnTrue, length, slice_get, slice_index, ◌<◌, Heap, row, opcode, Entry, IsEntryOf, IsLinked, address, Regs, Windows, Reads, word_count, GuestPages, IsLawfulSpace, flat, AreWindows, Next, Behind, Stops, To, IsStep, Ran, regs_of, Entered, EntryDone, Goes, GoesTo, IsAmong, IsAt, IsEntryDone, Lands, MayRun, RanOn, Runs, WentOn, counter, number_of, seen, tried}
use Rattle.rv_exec.proofs.QuickLemmas.{step_done, ran_join, ran_more, ran_none}

-- no word 0 is done
no_zero : (rule : Heap → ℕ → ℕ → Bool) (heap : Heap) (start number : ℕ) (x : List ℕ) (space : GuestPages) (next : Next) (new_x : List ℕ) (new_space : GuestPages) → IsEntryDone rule heap start number 0 x space next new_x new_space → ⊥
unfolding row opcode
no_zero rule heap start number x space next new_x new_space does = let none : row 0 ≡ None = refl in let is = does.done.is in absurd (cc)

-- there is an entry with this number
pub entry_there : (start count number : ℕ) (space : GuestPages) → IsLawfulSpace space → IsAt start count number space → number < length space.code.entries
entry_there start count number space so place = let c = place.count_is in let w = place.within in omega (arith, code_count space so, c, w)

-- an element of a list that is the same
pub got_in : (xs ys : List Entry) (number : ℕ) (entry : Entry) → xs ≡ ys → slice_get xs number ≡ Some entry → slice_get ys number ≡ Some entry
got_in xs ys number entry same got = subst (λ zs. slice_get zs number ≡ Some entry) same got

-- the first word is at a multiple of 4
pub start_whole : (start count number : ℕ) (space : GuestPages) → IsLawfulSpace space → IsAt start count number space → start % 4 ≡ 0
start_whole start count number space so place = ap (λ n. n % 4) place.start_is ∙ so.code.whole

-- so many words end below 2 ^ 32
pub count_below : (start count number : ℕ) (space : GuestPages) → IsLawfulSpace space → IsAt start count number space → start < 2 ^ 32 → address start count ≤ 2 ^ 32
count_below start count number space so place small = elim (cases_lt 0 count) [
  | inl some ↦ below some (code_below space (count - 1) so (last some))
  | inr none ↦ omega (arith, none, small)
]
  where
    last : 0 < count → count - 1 < word_count space.code
    last some = let e = place.count_is in omega (arith, some, e)

    below : 0 < count → address space.code.start (count - 1) + 4 ≤ 2 ^ 32 → address start count ≤ 2 ^ 32
    below some h = let e = place.start_is in omega (arith, some, h, e)

module _ (rule : Heap → ℕ → ℕ → Bool) (heap : Heap) (start count number : ℕ) (entry : Entry) (x new_x : List ℕ) (space new_space : GuestPages) where
  -- the entry behind the last word does nothing
  less_than : IsLawfulSpace space → IsAt start count number space → slice_get space.code.entries number ≡ Some entry → (next : Next)
      → ((word : ℕ) → IsEntryOf start number word entry → IsEntryDone rule heap start number word x space next new_x new_space) → number < count
  less_than so place got next does = elim (cases_lt number count) [
    | inl less ↦ less
    | inr past ↦ absurd (at_end past)
  ]
    where
      at_end : count ≤ number → ⊥
      at_end past =
          let c = place.count_is in
          let w = place.within in
          let here : number ≡ word_count space.code = omega (arith, past, c, w) in
          let stops : entry.op ≡ op.Stop = entry_stops space entry so (subst (λ n. slice_get space.code.entries n ≡ Some entry) here got) in
          no_zero rule heap start number x space next new_x new_space (does 0 (inl stops))

  stepped : IsLawfulSpace space → IsAt start count number space → slice_get space.code.entries number ≡ Some entry → (next : Next) → number < count
      → ((word : ℕ) → IsEntryOf start number word entry → IsEntryDone rule heap start number word x space next new_x new_space)
      → IsStep rule heap (regs_of (counter start number) (seen x)) space (regs_of (counter start (number_of number next)) (seen new_x)) new_space
  stepped so place got next less does =
      let c = place.count_is in
      let s = place.start_is in
      let inside : number < word_count space.code = omega (arith, less, c) in
      let below = code_below space number so inside in
      let whole : counter start number ≡ address start number = omega (arith, below, s) in
      let says = subst (λ n. IsEntryOf n number (word_of space number) entry) (sym s) (entry_is space number entry so inside got) in
      let reads = subst (λ n. Reads 1 (flat space) (address n number) 4 (Ok (word_of space number))) (sym s) (fetches_code space number so inside) in
      subst (λ p. IsStep rule heap (regs_of p (seen x)) space (regs_of (counter start (number_of number next)) (seen new_x)) new_space) (sym whole)
      (step_done rule heap (word_of space number) (address start number) (seen x) (seen new_x) space new_space (counter start (number_of number next)) reads (does (word_of space number) says).done)

  -- the place stays in a memory with the same code
  place_in : (other : ℕ) → IsAt start count number space → new_space.code ≡ space.code → other ≤ count → IsAt start count other new_space
  place_in other place same within = record {
    start_is = place.start_is ∙ ap (λ c. c.start) (sym same);
    count_is = place.count_is ∙ ap word_count (sym same);
    within = within;
  }

  pub entered : (next : Next) → IsLawfulSpace space → IsAt start count number space → slice_get space.code.entries number ≡ Some entry → slice_index x 0 ≡ 0 → new_space.code ≡ space.code
      → (IsLinked count entry → IsAmong count next) → EntryDone rule heap start number entry x space next new_x new_space → Entered rule heap start count number x space next new_x new_space
  entered Stops so place got zero_is same among does = record {
    zero = ap (λ l. slice_index l 0) does.0 ∙ zero_is;
    place = place_in number place same place.within;
    word = tt;
    done = (ap (λ l. regs_of (counter start number) (seen l)) does.0, does.1);
  }
  entered Behind so place got zero_is same among does =
      let less = less_than so place got Behind does in
      record {
        zero = (does (word_of space number) (says less)).zero;
        place = place_in (number + 1) place same (omega (arith, less));
        word = less;
        done = stepped so place got Behind less does;
      }
    where
      says : number < count → IsEntryOf start number (word_of space number) entry
      says less = let c = place.count_is in subst (λ n. IsEntryOf n number (word_of space number) entry) (sym place.start_is) (entry_is space number entry so (omega (arith, less, c)) got)
  entered (To other) so place got zero_is same among does =
      let less = less_than so place got (To other) does in
      let linked = subst (λ n. IsLinked n entry) (sym place.count_is) (entry_linked space number entry so got) in
      let inside = among linked in
      record {
        zero = (does (word_of space number) (says less)).zero;
        place = place_in other place same (omega (arith, inside));
        word = less;
        done = stepped so place got (To other) less does;
      }
    where
      says : number < count → IsEntryOf start number (word_of space number) entry
      says less = let c = place.count_is in subst (λ n. IsEntryOf n number (word_of space number) entry) (sym place.start_is) (entry_is space number entry so (omega (arith, less, c)) got)

-- before the first entry: the registers as they were given
pub first_regs : (pc start other first : ℕ) (x r : List ℕ) → pc ≡ counter other first → start ≡ other → seen x ≡ r → regs_of pc r ≡ regs_of (counter start first) (seen x)
first_regs pc start other first x r is same all =
    ap (λ p. regs_of p r) (is ∙ ap (λ n. counter n first) (sym same)) ∙ ap (regs_of (counter start first)) (sym all)

pub first_zero : (x r : List ℕ) → seen x ≡ r → slice_index r 0 ≡ 0 → slice_index x 0 ≡ 0
first_zero x r all zero_is = sym (get_or-take 32 x 0 0 (omega arith)) ∙ ap (λ (l : List ℕ). slice_index l 0) all ∙ zero_is

module _ (rule : Heap → ℕ → ℕ → Bool) (heap : Heap) (start count done : ℕ) (regs : Regs) (first : GuestPages) (number : ℕ) (x new_x : List ℕ) (space new_space : GuestPages) where
  -- what stops leaves all as it was
  pub ran_still : (next : Next) → next ≡ Stops → Ran rule heap done regs first (regs_of (counter start number) (seen x)) space → Entered rule heap start count number x space next new_x new_space
      → Ran rule heap done regs first (regs_of (counter start number) (seen new_x)) new_space
  ran_still next is ran one =
      let here = subst (λ n. Entered rule heap start count number x space n new_x new_space) is one in
      subst (λ s. Ran rule heap done regs first (regs_of (counter start number) (seen new_x)) s) (sym here.done.1)
      (subst (λ r. Ran rule heap done regs first r space) (sym here.done.0) ran)

module _ (rule : Heap → ℕ → ℕ → Bool) (heap : Heap) (start count number : ℕ) (x mid_x new_x : List ℕ) (space mid_space new_space : GuestPages) (next : Next) where
  -- one entry alone
  pub went_none : Entered rule heap start count number x space next new_x new_space → WentOn rule heap start count number 0 x space next new_x new_space
  went_none one =
      let e : number ≡ number + 0 = omega arith in
      record {
        mid_x = x;
        mid_space = space;
        ran = subst (λ n. Ran rule heap 0 (regs_of (counter start number) (seen x)) space (regs_of (counter start n) (seen x)) space) e (ran_none rule heap (regs_of (counter start number) (seen x)) space);
        code = refl;
        last = subst (λ n. Entered rule heap start count n x space next new_x new_space) e one;
      }

  -- one behind another one
  pub went_one : (first : Next) → first ≡ Behind → mid_space.code ≡ space.code → Entered rule heap start count number x space first mid_x mid_space → Entered rule heap start count (number + 1) mid_x mid_space next new_x new_space
      → WentOn rule heap start count number 1 x space next new_x new_space
  went_one first is same one other =
      let here = subst (λ n. Entered rule heap start count number x space n mid_x mid_space) is one in
      record { mid_x = mid_x; mid_space = mid_space; ran = ran_more rule heap 0 _ _ _ space space mid_space (ran_none rule heap _ space) here.done; code = same; last = other }

-- one more in front
pub went_next : (rule : Heap → ℕ → ℕ → Bool) (heap : Heap) (start count number behind : ℕ) (x mid_x new_x : List ℕ) (space mid_space new_space : GuestPages) (next first : Next) → first ≡ Behind → mid_space.code ≡ space.code
    → Entered rule heap start count number x space first mid_x mid_space → WentOn rule heap start count (number + 1) behind mid_x mid_space next new_x new_space → WentOn rule heap start count number (behind + 1) x space next new_x new_space
went_next rule heap start count number behind x mid_x new_x space mid_space new_space next first is same one went =
    let here = subst (λ n. Entered rule heap start count number x space n mid_x mid_space) is one in
    let step = ran_more rule heap 0 _ _ _ space space mid_space (ran_none rule heap _ space) here.done in
    let all = ran_join rule heap 1 behind _ _ _ space mid_space went.mid_space step went.ran in
    let e : 1 + behind ≡ behind + 1 = omega arith in
    let f : number + 1 + behind ≡ number + (behind + 1) = omega arith in
    record {
      mid_x = went.mid_x;
      mid_space = went.mid_space;
      ran = subst (λ n. Ran rule heap (behind + 1) (regs_of (counter start number) (seen x)) space (regs_of (counter start n) (seen went.mid_x)) went.mid_space) f
          (subst (λ k. Ran rule heap k (regs_of (counter start number) (seen x)) space (regs_of (counter start (number + 1 + behind)) (seen went.mid_x)) went.mid_space) e all);
      code = went.code ∙ same;
      last = subst (λ n. Entered rule heap start count n went.mid_x went.mid_space next new_x new_space) f went.last;
    }

-- where the last one stands
pub stands_within : (rule : Heap → ℕ → ℕ → Bool) (heap : Heap) (start count number : ℕ) (x new_x : List ℕ) (space new_space : GuestPages) (next : Next) → Entered rule heap start count number x space next new_x new_space → number ≤ count
stands_within rule heap start count number x new_x space new_space Behind one = let w = one.word in omega (arith, w)
stands_within rule heap start count number x new_x space new_space (To other) one = let w = one.word in omega (arith, w)
stands_within rule heap start count number x new_x space new_space Stops one = one.place.within

-- where the last of these lands
pub lands_at : {rule : Heap → ℕ → ℕ → Bool} {heap : Heap} {start count number behind : ℕ} {x new_x : List ℕ} {space new_space : GuestPages} {next : Next}
    → WentOn rule heap start count number behind x space next new_x new_space → Lands count (number + behind) next
lands_at {rule = rule} {heap = heap} {start = start} {count = count} {number = number} {behind = behind} {new_x = new_x} {new_space = new_space} {next = next} went = record {
  within = stands_within rule heap start count (number + behind) went.mid_x new_x went.mid_space new_space next went.last;
  word = went.last.word;
  there = went.last.place.within;
}

module _ (rule : Heap → ℕ → ℕ → Bool) (heap : Heap) (start count number behind limit steps mid_steps new_steps new_number new_limit : ℕ) (x new_x : List ℕ) (space new_space : GuestPages) where
  -- what was done, as the loop counts it
  ran_on : (next : Next) → count ≤ limit → WentOn rule heap start count number behind x space next new_x new_space → new_space.code ≡ space.code → mid_steps ≡ steps + behind
      → GoesTo (number + behind) limit next new_number new_limit → new_steps ≡ mid_steps + tried next → RanOn rule heap start count number limit steps x space new_number new_limit new_steps new_x new_space
  ran_on Behind enough went same before to after =
      let n = to.number_is in
      let l = to.limit_is in
      let w = went.last.word in
      record {
        done = behind + 1;
        ran = subst (λ n. Ran rule heap (behind + 1) (regs_of (counter start number) (seen x)) space (regs_of (counter start n) (seen new_x)) new_space) (sym n)
            (ran_more rule heap behind (regs_of (counter start number) (seen x)) _ _ space went.mid_space new_space went.ran went.last.done);
        zero = went.last.zero;
        place = subst (λ n. IsAt start count n new_space) (sym n) went.last.place;
        code = same;
        left = omega (arith, n, l);
        inside = omega (arith, n, l, w, enough);
        counted = omega (arith, before, after);
      }
  ran_on (To other) enough went same before to after =
      let n = to.number_is in
      let l = to.limit_is in
      let w = went.last.word in
      record {
        done = behind + 1;
        ran = subst (λ n. Ran rule heap (behind + 1) (regs_of (counter start number) (seen x)) space (regs_of (counter start n) (seen new_x)) new_space) (sym n)
            (ran_more rule heap behind (regs_of (counter start number) (seen x)) _ _ space went.mid_space new_space went.ran went.last.done);
        zero = went.last.zero;
        place = subst (λ n. IsAt start count n new_space) (sym n) went.last.place;
        code = same;
        left = omega (arith, n, l, w, enough);
        inside = omega (arith, n, l, w, enough);
        counted = omega (arith, before, after);
      }
  ran_on Stops enough went same before to after =
      let n = to.number_is in
      let l = to.limit_is in
      let w = went.last.place.within in
      record {
        done = behind;
        ran = subst (λ n. Ran rule heap behind (regs_of (counter start number) (seen x)) space (regs_of (counter start n) (seen new_x)) new_space) (sym n)
            (ran_still rule heap start count behind (regs_of (counter start number) (seen x)) space (number + behind) went.mid_x new_x went.mid_space new_space Stops refl went.ran went.last);
        zero = went.last.zero;
        place = subst (λ n. IsAt start count n new_space) (sym n) went.last.place;
        code = same;
        left = omega (arith, n, l);
        inside = omega (arith, n, l, w, enough);
        counted = omega (arith, before, after);
      }

-- what goes on from the last of some goes on from the first
goes_from : (count number behind limit new_number new_limit : ℕ) (b : Bool) → OnTrue b (Goes count (number + behind) limit new_number new_limit) → OnTrue b (Goes count number limit new_number new_limit)
goes_from count number behind limit new_number new_limit true goes = let f = goes.further in record { enough = goes.enough; further = omega (arith, f) }
goes_from count number behind limit new_number new_limit false goes = goes

-- what was done, and whether it goes on
pub runs_on : {rule : Heap → ℕ → ℕ → Bool} {heap : Heap} {start count number behind limit steps mid_steps new_steps new_number new_limit : ℕ} {x new_x : List ℕ} {space new_space : GuestPages} {windows : Windows} {next : Next} (further : Bool) → count ≤ limit
    → WentOn rule heap start count number behind x space next new_x new_space → new_space.code ≡ space.code → mid_steps ≡ steps + behind → AreWindows new_space windows
    → GoesTo (number + behind) limit next new_number new_limit → new_steps ≡ mid_steps + tried next → OnTrue further (Goes count (number + behind) limit new_number new_limit)
    → Runs rule heap start count number limit steps x space further new_number new_limit new_steps new_x new_space windows
runs_on {rule = rule} {heap = heap} {start = start} {count = count} {number = number} {behind = behind} {limit = limit} {steps = steps} {mid_steps = mid_steps} {new_steps = new_steps} {new_number = new_number} {new_limit = new_limit} {x = x} {new_x = new_x} {space = space} {new_space = new_space} {next = next} further enough went same before holds to after goes = record {
  ran = ran_on rule heap start count number behind limit steps mid_steps new_steps new_number new_limit x new_x space new_space next enough went same before to after;
  holds = holds;
  goes = goes_from count number behind limit new_number new_limit further goes;
}

-- nothing was done
pub runs_none : {rule : Heap → ℕ → ℕ → Bool} {heap : Heap} {entries : List Entry} {start count number limit steps : ℕ} {x : List ℕ} {space : GuestPages} {windows : Windows}
    → MayRun entries start count number limit x space windows → Runs rule heap start count number limit steps x space false number limit steps x space windows
runs_none {rule = rule} {heap = heap} {start = start} {number = number} {x = x} {space = space} may =
    let w = may.place.within in
    let enough = may.enough in
    record {
      ran = record {
        done = 0;
        ran = ran_none rule heap (regs_of (counter start number) (seen x)) space;
        zero = may.zero;
        place = may.place;
        code = refl;
        left = omega arith;
        inside = omega (arith, w, enough);
        counted = omega arith;
      };
      holds = may.holds;
      goes = tt;
    }

-- whether it goes on, by another name
pub runs_as : {rule : Heap → ℕ → ℕ → Bool} {heap : Heap} {start count number new_number limit new_limit steps new_steps : ℕ} {x new_x : List ℕ} {space new_space : GuestPages} {windows : Windows} {b other : Bool} → b ≡ other
    → Runs rule heap start count number limit steps x space b new_number new_limit new_steps new_x new_space windows → Runs rule heap start count number limit steps x space other new_number new_limit new_steps new_x new_space windows
runs_as {rule = rule} {heap = heap} {start = start} {count = count} {number = number} {new_number = new_number} {limit = limit} {new_limit = new_limit} {steps = steps} {new_steps = new_steps} {x = x} {new_x = new_x} {space = space} {new_space = new_space} {windows = windows} is runs =
    subst (λ b. Runs rule heap start count number limit steps x space b new_number new_limit new_steps new_x new_space windows) is runs

-- what goes on has as many left as that needs
pub enough_on : {rule : Heap → ℕ → ℕ → Bool} {heap : Heap} {start count number new_number limit new_limit steps new_steps : ℕ} {x new_x : List ℕ} {space new_space : GuestPages} {windows : Windows} (further : Bool) → further ≡ true
    → Runs rule heap start count number limit steps x space further new_number new_limit new_steps new_x new_space windows → count ≤ new_limit
enough_on {count = count} {number = number} {new_number = new_number} {limit = limit} {new_limit = new_limit} further is runs =
    let goes = subst (λ b. OnTrue b (Goes count number limit new_number new_limit)) is runs.goes in
    goes.enough

-- the next entry may be done where all up to the last one may be
pub may_again : {rule : Heap → ℕ → ℕ → Bool} {heap : Heap} {entries : List Entry} {start count number new_number limit new_limit steps new_steps : ℕ} {x new_x : List ℕ} {space new_space : GuestPages} {windows new_windows : Windows} {further : Bool}
    → MayRun entries start count number limit x space windows → Runs rule heap start count number limit steps x space further new_number new_limit new_steps new_x new_space new_windows → count ≤ new_limit
    → MayRun entries start count new_number new_limit new_x new_space new_windows
may_again may runs enough =
    let l = runs.ran.left in
    let room = may.room in
    record {
      code = may.code ∙ ap (λ (t : Table). t.entries) (sym runs.ran.code);
      place = runs.ran.place;
      zero = runs.ran.zero;
      holds = runs.holds;
      enough = enough;
      room = omega (arith, l, room);
    }

-- what goes on from what was done goes on from where that began
goes_join : (count number mid_number new_number limit mid_limit new_limit done : ℕ) (further : Bool) → mid_limit + number + done ≡ limit + mid_number
    → OnTrue further (Goes count mid_number mid_limit new_number new_limit) → OnTrue further (Goes count number limit new_number new_limit)
goes_join count number mid_number new_number limit mid_limit new_limit done true left goes = let f = goes.further in record { enough = goes.enough; further = omega (arith, left, f) }
goes_join count number mid_number new_number limit mid_limit new_limit done false left goes = goes

-- so many, and so many more
pub runs_join : {rule : Heap → ℕ → ℕ → Bool} {heap : Heap} {start count number mid_number new_number limit mid_limit new_limit steps mid_steps new_steps : ℕ} {x mid_x new_x : List ℕ} {space mid_space new_space : GuestPages} {windows new_windows : Windows} {first : Bool} (further : Bool)
    → Runs rule heap start count number limit steps x space first mid_number mid_limit mid_steps mid_x mid_space windows → Runs rule heap start count mid_number mid_limit mid_steps mid_x mid_space further new_number new_limit new_steps new_x new_space new_windows
    → Runs rule heap start count number limit steps x space further new_number new_limit new_steps new_x new_space new_windows
runs_join {rule = rule} {heap = heap} {count = count} {number = number} {mid_number = mid_number} {new_number = new_number} {limit = limit} {mid_limit = mid_limit} {new_limit = new_limit} {space = space} {mid_space = mid_space} {new_space = new_space} further one other =
    let l = one.ran.left in
    let m = other.ran.left in
    let s = one.ran.counted in
    let t = other.ran.counted in
    record {
      ran = record {
        done = one.ran.done + other.ran.done;
        ran = ran_join rule heap one.ran.done other.ran.done _ _ _ space mid_space new_space one.ran.ran other.ran.ran;
        zero = other.ran.zero;
        place = other.ran.place;
        code = other.ran.code ∙ one.ran.code;
        left = omega (arith, l, m);
        inside = other.ran.inside;
        counted = omega (arith, s, t);
      };
      holds = other.holds;
      goes = goes_join count number mid_number new_number limit mid_limit new_limit one.ran.done further l other.goes;
    }

-- so many instructions were done since a loop began, each counted, and so many fewer are left
pub record Counted (rule : Heap → ℕ → ℕ → Bool) (heap : Heap) (most : ℕ) (regs : Regs) (first : GuestPages) (first_steps start number limit steps : ℕ) (x : List ℕ) (space : GuestPages) : Type 0 where
  pub ran : Ran rule heap (most - (limit - number)) regs first (regs_of (counter start number) (seen x)) space
  pub counts : steps ≡ first_steps + (most - (limit - number))
  pub within : limit ≤ most + number
  pub inside : number ≤ limit

-- before the first one
pub counted_none : {rule : Heap → ℕ → ℕ → Bool} {heap : Heap} {most : ℕ} {regs : Regs} {space : GuestPages} {steps start number : ℕ} {x : List ℕ} → regs ≡ regs_of (counter start number) (seen x)
    → Counted rule heap most regs space steps start number (most + number) steps x space
counted_none {rule = rule} {heap = heap} {most = most} {regs = regs} {space = space} {steps = steps} {start = start} {number = number} {x = x} same =
    let none : 0 ≡ most - (most + number - number) = omega arith in
    record {
      ran = subst (λ n. Ran rule heap n regs space (regs_of (counter start number) (seen x)) space) none (subst (λ r. Ran rule heap 0 regs space r space) same (ran_none rule heap regs space));
      counts = omega (arith, none);
      within = omega arith;
      inside = omega arith;
    }

-- and so many more
pub counted_on : {rule : Heap → ℕ → ℕ → Bool} {heap : Heap} {most : ℕ} {regs : Regs} {first : GuestPages} {first_steps start count number new_number limit new_limit steps new_steps : ℕ} {x new_x : List ℕ} {space new_space : GuestPages}
    → Counted rule heap most regs first first_steps start number limit steps x space → RanOn rule heap start count number limit steps x space new_number new_limit new_steps new_x new_space
    → Counted rule heap most regs first first_steps start new_number new_limit new_steps new_x new_space
counted_on {rule = rule} {heap = heap} {most = most} {regs = regs} {first = first} {start = start} {number = number} {new_number = new_number} {limit = limit} {new_limit = new_limit} {new_x = new_x} {space = space} {new_space = new_space} counted on =
    let l = on.left in
    let i = on.inside in
    let t = on.counted in
    let counts = counted.counts in
    let within = counted.within in
    let inside = counted.inside in
    let same : most - (limit - number) + on.done ≡ most - (new_limit - new_number) = omega (arith, l, i, within, inside) in
    record {
      ran = subst (λ n. Ran rule heap n regs first (regs_of (counter start new_number) (seen new_x)) new_space) same (ran_join rule heap (most - (limit - number)) on.done regs _ _ first space new_space counted.ran on.ran);
      counts = omega (arith, t, counts, same);
      within = omega (arith, l, within);
      inside = i;
    }

-- the measure falls
pub falls_further : (count number new_number limit new_limit : ℕ) (further : Bool) → further ≡ true → OnTrue further (Goes count number limit new_number new_limit) → number ≤ limit → new_number ≤ new_limit → new_limit - new_number < limit - number
falls_further count number new_number limit new_limit further is goes inside new_inside =
    let here = subst (λ b. OnTrue b (Goes count number limit new_number new_limit)) is goes in
    let f = here.further in
    omega (arith, f, inside, new_inside)

-- the same run, by what else its numbers and registers are known as
pub ran_as : (rule : Heap → ℕ → ℕ → Bool) (heap : Heap) (done other_done : ℕ) (regs : Regs) (first : GuestPages) (start number other pc : ℕ) (x r : List ℕ) (space : GuestPages)
    → done ≡ other_done → other ≡ number → pc ≡ counter start other → r ≡ seen x → Ran rule heap done regs first (regs_of (counter start number) (seen x)) space → Ran rule heap other_done regs first (regs_of pc r) space
ran_as rule heap done other_done regs first start number other pc x r space same place is all ran =
    subst (λ n. Ran rule heap n regs first (regs_of pc r) space) same
    (subst (λ l. Ran rule heap done regs first (regs_of pc l) space) (sym all)
    (subst (λ p. Ran rule heap done regs first (regs_of p (seen x)) space) (sym (is ∙ ap (counter start) place)) ran))
