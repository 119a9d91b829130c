-- A second host that takes over says neither that the files are of another run, nor that clients have more.
use Rattle.follow.proofs.Agreed.{answers_agree, stuck_has_reached}
use Rattle.follow.proofs.Placed.{episodes_are_placed}
use Rattle.follow.proofs.Reached.{follows_before}
use Rattle.session_following.proofs.Terms.{Option, Some, arith, inl, inr, subst, ◌<◌, ◌≡◌, IfSome, Path, Finish, HasReached, Stand, IsFollowed, IsTakeover, Takeover, plan_in, stopped, EndsEarly, FilesAndClients, IsShort, IsUnlike, NeitherIsSaid, NoPlan, OtherAnswer, OtherPlace}

-- where it hasn't reached what was handed over it has fewer instructions than the record's last line
before_finish : (over : Takeover) (path : Path) (stand : Stand over.limits (plan_in over) path) (finish : Finish) → IsTakeover over → IsFollowed over path → ¬ HasReached over.limits over.handed path stand → over.handed.finish ≡ Some finish → path.steps < finish.steps
before_finish over path stand finish takeover followed never is =
    elim (follows_before over path stand takeover followed) [
      | inl reached ↦ absurd (never reached)
      | inr before ↦
          let at = subst (λ (o : Option Finish). IfSome o (λ (f : Finish). (f.steps ≡ (stopped over).steps) × (f.taken ≡ (stopped over).state.machine.taken))) is takeover.handed_by.finish in
          omega (arith, before.1, at.0)
    ]

pub neither_is_said : NeitherIsSaid
neither_is_said over path takeover followed whole = (unlike, short)
  where
    unlike : ¬ IsUnlike over.limits followed.heard over.handed path
    unlike (OtherAnswer one other) = elim (answers_agree over path takeover followed) [
      | inl front ↦ one front
      | inr front ↦ other front
    ]
    unlike (OtherPlace finish stand is late apart never) = let less = before_finish over path stand finish takeover followed never is in omega (arith, less, late)
    unlike (NoPlan apart) = apart (episodes_are_placed over takeover)
    unlike (EndsEarly stand stuck less) = let reached = stuck_has_reached over path stand takeover followed whole stuck in less (record { past = reached.past; chose = reached.chose; finished = reached.finished })

    lacks : (conn : _) (is : IsShort over.limits followed.heard over.handed path conn) → ¬ HasReached over.limits over.handed path is.stand
    lacks conn is reached = let more = is.more in let covers = reached.covers conn in omega (arith, more, covers)

    short : (conn : _) → ¬ IsShort over.limits followed.heard over.handed path conn
    short conn is = elim is.last [
      | inl stuck ↦ lacks conn is (stuck_has_reached over path is.stand takeover followed whole stuck)
      | inr there ↦ let less = before_finish over path is.stand there.0 takeover followed (lacks conn is) there.1.0 in omega (arith, less, there.1.1)
    ]

pub files_and_clients : FilesAndClients
files_and_clients limits handed path stand files covers = record { past = files.past; chose = files.chose; finished = files.finished; covers = covers }
