use Rattle.std.proofs.Common.{◌∙◌, List, map, string_bytes, ap}
use Rattle.command_words.specs.Parts.{part_value}
use Rattle.command_words.specs.Faults.{fault_in}
use Rattle.command_words.proofs.ValueLemmas.{has_values, said_parts}
use Rattle.command_words.proofs.PlainLemmas.{has_plains}
use Rattle.command_words.proofs.found.Found.read.Goals as goal

pub returns-in-None-clause-values : goal.returns-in-None-clause-values
returns-in-None-clause-values c =
    let parts = map part_value c.in_ok-parts.parts.items in
    has_values c.args.shape (map string_bytes c.args.words.now) parts
    (said_parts c.args.shape (map string_bytes c.args.words.now) parts c.fault_in.result c.in_ok-parts.ensures (c.fault_in.ensures ∙ ap (λ (ps : List _). fault_in c.args.shape (map part_value ps)) c.as_slice.ensures.value) c.in-None.is)

pub returns-in-None-clause-plains : goal.returns-in-None-clause-plains
returns-in-None-clause-plains c =
    let parts = map part_value c.in_ok-parts.parts.items in
    has_plains c.args.shape (map string_bytes c.args.words.now) parts
    (said_parts c.args.shape (map string_bytes c.args.words.now) parts c.fault_in.result c.in_ok-parts.ensures (c.fault_in.ensures ∙ ap (λ (ps : List _). fault_in c.args.shape (map part_value ps)) c.as_slice.ensures.value) c.in-None.is)
