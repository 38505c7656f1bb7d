use Rattle.std.proofs.Common.{map, string_bytes}
use Rattle.command_words.specs.Requests.{words_of, request_of}
use Rattle.arc_program.proofs.RunLemmas.{performed, keeps_to, keeps_all}
use Rattle.arc_program.proofs.performing.perform.Goals as goal

pub returns-in-Ok-clause-done : goal.returns-in-Ok-clause-done
returns-in-Ok-clause-done g c = performed (words_of (map string_bytes c.args.words.now)) (request_of c.in-Ok.command) _ _ _ _ _ c.in-Ok.ensures.answers c.carry_out.ensures.done

pub returns-in-Ok-clause-writes : goal.returns-in-Ok-clause-writes
returns-in-Ok-clause-writes g c = keeps_to (words_of (map string_bytes c.args.words.now)) (request_of c.in-Ok.command) _ _ c.in-Ok.ensures.answers c.carry_out.ensures.writes

pub returns-in-Err-clause-done : goal.returns-in-Err-clause-done
returns-in-Err-clause-done g c = c.words_refusal.ensures (words_of (map string_bytes c.args.words.now)) _ _ c.in-Err.ensures.answers

pub returns-in-Err-clause-writes : goal.returns-in-Err-clause-writes
returns-in-Err-clause-writes g c = keeps_all (words_of (map string_bytes c.args.words.now)) _
