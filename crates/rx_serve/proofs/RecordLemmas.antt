-- A line at which a record is refused is one of its lines, or the one behind them.
use Rattle.msg_frame.specs.declared.framing.Framing.{Framing}
use Rattle.schedule_file.specs.Telling.{answer_of, head_told, is_head, written_head}
use Rattle.std.proofs.lemmas.Bool.{and_parts}
use Rattle.std.proofs.lemmas.Slice.Eq.{bytes_eq-Decides}
use Rattle.std.specs.Prelude.{bytes_eq, ◌&&◌}
use Rattle.rx_serve.proofs.Terms.{Bool, List, None, Option, Some, [], ap, arith, false, length, refl, subst, true, ℕ, ◌+◌, ◌-◌, ◌∷◌, ◌≡◌, ◌≤◌, if◌then◌else◌, is_some, ◌==◌, lines_of, onto, refused_behind, refused_from, refused_line, refused_lines, refused_under, end_of, head_line, head_of}

pub behind_few : (number line : ℕ) (lines : List (List ℕ)) → refused_behind number lines ≡ Some line → line ≤ number
behind_few number line [] is = let none : None ≡ Some line = is in absurd (cc)
behind_few number line (first ∷ lines) is = let same : number ≡ line = cc in omega (arith, same)

from_few : (version number line : ℕ) (lines : List (List ℕ)) → refused_from version number lines ≡ Some line → line ≤ number + length lines
from_few version number line [] is = let same : number ≡ line = cc in omega (arith, same)
from_few version number line (first ∷ lines) is = by (is_some (answer_of version first)) (is_some (end_of first)) (from_few version (number + 1) line lines) is
  where
    by : (answer end : Bool) → (refused_from version (number + 1) lines ≡ Some line → line ≤ number + 1 + length lines)
        → (if answer then refused_from version (number + 1) lines else if end then refused_behind (number + 1) lines else Some number) ≡ Some line → line ≤ number + length (first ∷ lines)
    by true end rest is = let few = rest is in omega (arith, few)
    by false true rest is = let few = behind_few (number + 1) line lines is in omega (arith, few)
    by false false rest is = let same : number ≡ line = cc in omega (arith, same)

onto_few : (byte : ℕ) (lines : List (List ℕ)) → length (onto byte lines) ≤ length lines + 1
onto_few byte [] = omega arith
onto_few byte (line ∷ lines) = omega arith

pub lines_few : (text : List ℕ) → length (lines_of text) ≤ length text
lines_few [] = omega arith
lines_few (byte ∷ bytes) = by (byte == 10) (lines_few bytes)
  where
    by : (last : Bool) → length (lines_of bytes) ≤ length bytes → length (if last then (byte ∷ []) ∷ lines_of bytes else onto byte (lines_of bytes)) ≤ length (byte ∷ bytes)
    by true few = omega (arith, few)
    by false few = let more = onto_few byte (lines_of bytes) in omega (arith, few, more)

-- behind the first line stand no more lines than it leaves bytes
abbrev pub LeavesFew : List (List ℕ) → ℕ → Type 0
LeavesFew [] most = Unit {0}
LeavesFew (first ∷ lines) most = length first + length lines ≤ most

onto_leaves : (byte : ℕ) (lines : List (List ℕ)) (most : ℕ) → LeavesFew lines most → LeavesFew (onto byte lines) (most + 1)
onto_leaves byte [] most few = omega arith
onto_leaves byte (line ∷ lines) most few = omega (arith, few)

pub lines_leave : (text : List ℕ) → LeavesFew (lines_of text) (length text)
lines_leave [] = tt
lines_leave (byte ∷ bytes) = subst (λ (most : ℕ). LeavesFew (lines_of (byte ∷ bytes)) most) (let more : length bytes + 1 ≡ length (byte ∷ bytes) = omega arith in more) (by (byte == 10) (lines_few bytes) (lines_leave bytes))
  where
    by : (last : Bool) → length (lines_of bytes) ≤ length bytes → LeavesFew (lines_of bytes) (length bytes) → LeavesFew (if last then (byte ∷ []) ∷ lines_of bytes else onto byte (lines_of bytes)) (length bytes + 1)
    by true few leaves = omega (arith, few)
    by false few leaves = onto_leaves byte (lines_of bytes) (length bytes) leaves

-- a first line of a record has ten bytes and more
pub head_line_long : (version window : ℕ) (frame : Framing) → 10 ≤ length (head_line version window frame)
unfolding head_line
head_line_long version window frame = omega arith

pub head_long : (line : List ℕ) → is_some (head_of line) ≡ true → 10 ≤ length line
unfolding head_of
head_long line is = by (is_head (head_told line) && bytes_eq (written_head (head_told line)) line) refl is
  where
    by : (test : Bool) → (is_head (head_told line) && bytes_eq (written_head (head_told line)) line) ≡ test → is_some (if test then Some (head_told line) else None) ≡ true → 10 ≤ length line
    by true written got =
        let parts = and_parts (is_head (head_told line)) (bytes_eq (written_head (head_told line)) line) written in
        omega (arith, ap length ((bytes_eq-Decides (written_head (head_told line)) line).0 parts.1), head_line_long (head_told line).version (head_told line).window (head_told line).frame)
    by false written got = let none : false ≡ true = got in absurd (cc)

refused_few : (line : ℕ) (lines : List (List ℕ)) (most : ℕ) → LeavesFew lines most → refused_lines lines ≡ Some line → line ≤ 1 + (most - 9)
refused_few line [] most leaves is = let same : 1 ≡ line = cc in omega (arith, same)
refused_few line (first ∷ lines) most leaves is =
    elim (head_of first) as (λ head. head_of first ≡ head → refused_under head lines ≡ Some line → line ≤ 1 + (most - 9)) [
      | None ↦ λ at none. let same : 1 ≡ line = cc in omega (arith, same)
      | Some head ↦ λ at some. let few = from_few head.version 2 line lines some in let long = head_long first (ap is_some at) in omega (arith, few, long, leaves)
    ] refl is

pub line_few : (text : List ℕ) (line : ℕ) → refused_line text ≡ Some line → line ≤ 1 + (length text - 9)
line_few text line is = refused_few line (lines_of text) (length text) (lines_leave text) is
