use Rattle.std.proofs.Common.{refl, inl}
use Rattle.command_words.specs.Requests.{request_of}
use Rattle.arc_program.proofs.SourceLemmas.{may_have_input}
use Rattle.arc_program.proofs.performing.input_refusal.Goals as goal

pub returns-in-Err : goal.returns-in-Err
returns-in-Err c = λ before after out input. (inl (inl (may_have_input (request_of c.args.command) c.args.fault before after input)), inl refl)
