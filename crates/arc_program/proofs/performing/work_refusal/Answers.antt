use Rattle.std.proofs.Common.{refl, sym, subst, inl, Err, string_bytes}
use Rattle.command_words.specs.Requests.{Request, request_of}
use Rattle.arc_program.specs.declared.commands.WorkFault.{WorkFault}
use Rattle.arc_program.specs.declared.commands.WorkFault.TheVariants as work
use Rattle.arc_program.specs.World.{ShelfSeen}
use Rattle.arc_program.specs.Sources.{HasReadInstance}
use Rattle.arc_program.specs.inner.Work.{Works}
use Rattle.arc_program.proofs.TextLemmas.{may_have_all, may_have_worked, fails_second, rejected_read}
use Rattle.arc_program.proofs.performing.work_refusal.Goals as goal

pub returns-in-Err : goal.returns-in-Err
returns-in-Err c = λ before between after out I given has keeps works. (inl (may_have_worked (request_of c.args.command) before between after has keeps I c.args.fault works), inl refl)

pub returns-in-Large : goal.returns-in-Large
returns-in-Large c = λ before between after out I given has keeps works.
    let request : Request = request_of c.args.command in
    let w : Works request I between after (Err (work.Large c.in-Large.t)) = subst (λ (f : WorkFault). Works request I between after (Err f)) c.in-Large.is works in
    (c.in-Ok.ensures, record { makes = w.0; instance = I; given = given; large = w.1 }, subst (λ (s : ShelfSeen). HasReadInstance request before s) (sym w.2) has, refl)

pub returns-in-LargeJoint : goal.returns-in-LargeJoint
returns-in-LargeJoint c = λ before between after out I given has keeps works.
    let request : Request = request_of c.args.command in
    let w : Works request I between after (Err work.LargeJoint) = subst (λ (f : WorkFault). Works request I between after (Err f)) c.in-LargeJoint.is works in
    (c.in-Ok.ensures, record { makes = w.0; instance = I; given = given; large = w.1 }, subst (λ (s : ShelfSeen). HasReadInstance request before s) (sym w.2) has, refl)

pub returns-in-Unread : goal.returns-in-Unread
returns-in-Unread c = λ before between after out I given has keeps works.
    let request : Request = request_of c.args.command in
    let w : Works request I between after (Err (work.Unread c.in-Unread.name)) = subst (λ (f : WorkFault). Works request I between after (Err f)) c.in-Unread.is works in
    (fails_second request before between after has keeps I given (string_bytes c.in-Unread.name) w.0 w.1 w.2 w.3 w.4, refl)

pub returns-in-Rejected : goal.returns-in-Rejected
returns-in-Rejected c = λ before between after out I given has keeps works.
    let request : Request = request_of c.args.command in
    let w : Works request I between after (Err (work.Rejected c.in-Rejected.line c.in-Rejected.status)) = subst (λ (f : WorkFault). Works request I between after (Err f)) c.in-Rejected.is works in
    (rejected_read request before between after has keeps I given c.in-Rejected.line c.in-Rejected.status w, refl)

pub returns-in-Memory : goal.returns-in-Memory
returns-in-Memory c = λ before between after out I given has keeps works.
    let request : Request = request_of c.args.command in
    let w : Works request I between after (Err work.Memory) = subst (λ (f : WorkFault). Works request I between after (Err f)) c.in-Memory.is works in
    (inl (may_have_all request before between after has keeps w), inl refl)
