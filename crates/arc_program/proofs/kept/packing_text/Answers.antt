use Rattle.std.proofs.Common.{◌≡◌, ◌∙◌, ap, sym, refl, rules, List, ℕ, ◌++◌, append_assoc, length}
use Rattle.packing_laws.specs.declared.packings.Bin.{Bin}
use Rattle.packing_laws.specs.Packings.{cost_of}
use Rattle.packing_laws.specs.Printed.{bins_of}
use Rattle.arc_program.specs.Reports.{bins_text, packing_line}
use Rattle.arc_program.specs.Kept.{empty_lines}
use Rattle.arc_program.proofs.ReportLemmas.{bins_text-append}
use Rattle.arc_program.proofs.kept.packing_text.Goals as goal

pub tidy-requires : goal.tidy-requires
tidy-requires c = c.packings_fit.ensures c.args.instance.now c.args.packing c.known.ensures c.requires

pub returns : goal.returns
returns c =
    let line : List ℕ = packing_line (cost_of c.args.instance.now (bins_of c.args.packing)) in
    let tidied : List Bin = c.tidy.new.packing in
    let empty : List Bin = empty_lines (length c.args.instance.now.types) c.args.packing in
    let front : c.push_bins.new.out.items ≡ line ++ bins_text tidied = search rules in
    let behind : c.as_slice.result.now ≡ bins_text empty = search rules in
    record {
      bins = tidied ++ empty;
      kept = record { tidied = tidied; is_tidied = c.in_ok-tidy.ensures.tidied; all = refl };
      text_is = c.in_ok-push_bytes.ensures.ok
          ∙ (ap (λ (zs : List ℕ). zs ++ c.as_slice.result.now) front
          ∙ (ap (λ (zs : List ℕ). (line ++ bins_text tidied) ++ zs) behind
          ∙ (append_assoc line (bins_text tidied) (bins_text empty)
          ∙ ap (λ (zs : List ℕ). line ++ zs) (sym (bins_text-append tidied empty)))));
    }
