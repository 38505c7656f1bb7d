-- The headline, from how a run ends.
use Rattle.std.proofs.Common.{◌≡◌, ◌∙◌, ℕ, Bool, List, Option, ◌++◌, None, Some, IfSome, Result, Ok, Err, refl, sym, ap, subst, append_assoc}
use Rattle.std.specs.Option.{IsSomeAnd}
use Rattle.std.proofs.lemmas.Option.{same_Some}
use Rattle.arc_io.specs.Bytes.{Told, Files}
use Rattle.packing_laws.specs.Instances.{InstanceValue}
use Rattle.cert_text.specs.declared.lines.Certificate.{Certificate}
use Rattle.cert_text.specs.Spelling.{certificate_text_of}
use Rattle.command_words.specs.declared.faults.WordFault.{WordFault}
use Rattle.command_words.specs.Requests.{Request, Compiles, Solves, Checks, Exports, Extracts, Bounds, Makes}
use Rattle.arc_program.specs.declared.status.Status.{Status}
use Rattle.arc_program.specs.declared.status.Status.TheVariants.{Done, Bracketed, Usage, BadInstance, BadCertificate, ReadFault as ReadFaults, WriteFault, NoMemory, TooLarge, BadSolution}
use Rattle.arc_program.specs.World.{ShelfSeen, World}
use Rattle.arc_program.specs.Stored.{ThenWrites, HasDoneTo}
use Rattle.arc_program.specs.Writing.{HasWritten}
use Rattle.arc_program.specs.Statuses.{IsReported}
use Rattle.arc_program.specs.Reports.{first_line, bins_in, certificate_in, seed_and_size, units_and_material, size_lines}
use Rattle.arc_program.specs.commands.{IsTextOf, IsBeside}
use Rattle.arc_program.specs.commands.Solve.{IsSolved, IsMade}
use Rattle.arc_program.specs.Headline.{HasStored, IsDecided, Decides, Headline}
use Rattle.arc_program.specs.Ends.{Reports, Answers, Ends}
use Rattle.arc_program.proofs.Found.{claim_is, verdict_is, made_all}

-- what was written is the text of the certificate that is left
text_of_made : (made : Option Certificate) (c : Certificate) (bytes : List ℕ) → made ≡ Some c → IsTextOf made bytes → bytes ≡ certificate_text_of c
text_of_made made c bytes is text = subst (λ (m : Option Certificate). IsTextOf m bytes) is text

written_told : (told : Told) (before after : Files) (name bytes text : List ℕ) → before name ≡ told → bytes ≡ text → IfSome told (λ _. after name ≡ Some bytes) → IfSome told (λ _. after name ≡ Some text)
written_told None before after name bytes text e same h = tt
written_told (Some old) before after name bytes text e same h = h ∙ ap Some same

module _ (name : List ℕ) (mvp : Bool) (nodes : ℕ) (workers : ℕ) where
  stored : (asked : Option (List ℕ)) (made : Option Certificate) (c : Certificate) (bytes : Option (List ℕ)) (before after : ShelfSeen) → made ≡ Some c → HasDoneTo asked (Solves name mvp nodes asked workers) bytes before after → ((written : List ℕ) → asked ≡ Some written → IsSomeAnd bytes (IsTextOf made)) → HasStored asked (certificate_text_of c) before after
  stored None made c bytes before after is done beside = tt
  stored (Some written) made c bytes before after is done beside =
      let named : done.name ≡ written = same_Some done.name written (sym done.named) in
      let text : IsTextOf made done.bytes = subst (λ (b : Option (List ℕ)). IsSomeAnd b (IsTextOf made)) done.given (beside written refl) in
      let same : done.bytes ≡ certificate_text_of c = text_of_made made c done.bytes is text in
      let goes : HasWritten written done.bytes done.between after = subst (λ (n : List ℕ). HasWritten n done.bytes done.between after) named done.goes in
      let put : IfSome (before.written written) (λ _. after.written written ≡ Some done.bytes) = subst (λ (f : Files). IfSome (f written) (λ _. after.written written ≡ Some done.bytes)) done.keeps.written goes.written in
      written_told (before.written written) before.written after.written written done.bytes (certificate_text_of c) refl same put

  solve_decided : (asked : Option (List ℕ)) (before after : World) (made : Option Certificate) (status : Status) → Reports (Solves name mvp nodes asked workers) before after made status → IsDecided (Solves name mvp nodes asked workers) before after made status
  solve_decided asked before after made status r =
      let I : InstanceValue = r.owed.instance in
      let s : IsSolved I nodes status r.text made = r.owed.report in
      let c : Certificate = certificate_in s.outcome in
      record {
        instance = I;
        given = r.owed.given;
        small = s.found.small;
        line = first_line I s.outcome;
        bins = bins_in s.outcome;
        so = s.found.so;
        certificate = c;
        text = r.text;
        tells = s.text_is;
        printed = r.printed;
        left = s.made_is;
        graph = s.graph;
        compiled = (s.sizes, s.found.compiled);
        shown = record {
          claim = claim_is I s.graph nodes s.outcome s.found.outcome_is;
          verdict = verdict_is I s.graph nodes s.outcome s.found.outcome_is;
          stored = stored asked made c r.certificate before.shelf after.shelf s.made_is r.shelf
              (λ written e. subst (λ (a : Option (List ℕ)). IsBeside a (Solves name mvp nodes asked workers) I r.text made r.certificate) e r.owed.beside);
        };
        granted = λ e. made_all I s.graph nodes s.outcome s.found.outcome_is (sym s.status_is ∙ e);
      }

make_decided : (seed size nodes workers : ℕ) (before after : World) (made : Option Certificate) (status : Status) → Reports (Makes seed size nodes workers) before after made status → IsDecided (Makes seed size nodes workers) before after made status
make_decided seed size nodes workers before after made status r =
    let I : InstanceValue = r.owed.instance in
    let s : IsMade I seed size nodes status r.text made = r.owed.report in
    record {
      instance = I;
      given = r.owed.given;
      small = s.found.small;
      line = first_line I s.outcome;
      bins = bins_in s.outcome;
      so = s.found.so;
      certificate = certificate_in s.outcome;
      text = r.text;
      tells = (seed_and_size seed size ++ units_and_material I ++ size_lines 1 s.sizes, s.text_is);
      printed = r.printed;
      left = s.made_is;
      graph = s.graph;
      compiled = (s.sizes, s.found.compiled);
      shown = record { claim = claim_is I s.graph nodes s.outcome s.found.outcome_is; verdict = verdict_is I s.graph nodes s.outcome s.found.outcome_is; stored = tt };
      granted = λ e. made_all I s.graph nodes s.outcome s.found.outcome_is (sym s.status_is ∙ e);
    }

decides : (request : Request) (before after : World) (made : Option Certificate) (status : Status) → Reports request before after made status → Decides request before after made status
decides (Compiles name mvp workers) before after made status r = r.owed.report.1
decides (Solves name mvp nodes certificate workers) before after made status r = solve_decided name mvp nodes workers certificate before after made status r
decides (Checks name certificate mvp workers) before after made status r = r.owed.report.1
decides (Exports name mvp joint) before after made status r = r.owed.report.1
decides (Extracts name solution mvp) before after made status r = r.owed.report.1
decides (Bounds name mvp certificate) before after made status r = r.owed.report.1
decides (Makes seed size nodes workers) before after made status r = make_decided seed size nodes workers before after made status r

answers_decide : (request : Request) (before after : World) (made : Option Certificate) (status : Status) → Answers request before after made status → IsReported status → Decides request before after made status
answers_decide request before after made Done ends r = decides request before after made Done ends
answers_decide request before after made Bracketed ends r = decides request before after made Bracketed ends
answers_decide request before after made Usage ends r = absurd r
answers_decide request before after made BadInstance ends r = absurd r
answers_decide request before after made BadCertificate ends r = absurd r
answers_decide request before after made ReadFaults ends r = absurd r
answers_decide request before after made WriteFault ends r = absurd r
answers_decide request before after made NoMemory ends r = absurd r
answers_decide request before after made TooLarge ends r = absurd r
answers_decide request before after made BadSolution ends r = absurd r

pub headline : (asked : Result Request WordFault) (before after : World) (made : Option Certificate) (status : Status) → Ends asked before after made status → Headline asked before after made status
headline (Ok request) before after made status ends = answers_decide request before after made status ends
headline (Err fault) before after made status ends = tt
