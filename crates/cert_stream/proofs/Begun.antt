-- A judge that was fed nothing.
use Rattle.std.proofs.Common.{◌≡◌, [], refl, sym, subst, inr, List, arith, ap, ◌∙◌}
use Rattle.std.proofs.lemmas.List.Elements.{All-nil}
use Rattle.std.specs.Prelude.{◌≢◌}
use Rattle.packing_laws.specs.Instances.{InstanceValue}
use Rattle.flow_graph.specs.Arcs.{TypeValue}
use Rattle.cert_text.specs.Reading.{ReaderValue, beginning}
use Rattle.cert_laws.specs.Rules.{at_start}
use Rattle.cert_checker.specs.Checkers.{CheckerValue}
use Rattle.cert_stream.specs.declared.stage.Stage.TheVariants.{Open}
use Rattle.cert_stream.specs.Judges.{IsFed, JudgeValue}
use Rattle.cert_stream.specs.inner.Batches.{BatchValue, begun}

module _ (I : InstanceValue) (g : List TypeValue) where
  abbrev first : JudgeValue
  first = record { batch = record { checker = begun I g (at_start I g); lines = [] }; reader = beginning; taken = 0; stage = Open }

  first_fed : IsFed I g [] first
  first_fed = record {
    held = record {
      taken = refl;
      fits = omega arith;
      lines = [];
      told = record { parts = refl; spelled = tt; agrees = record { good = refl; read = refl; ended = refl; version = inr refl } };
      judged = [];
      parts = refl;
      accepted = tt;
      checker = refl;
    };
    read = inr (refl, record { good = refl; partial = All-nil (λ b. b ≢ 10); short = omega arith });
  }

  pub fed_nothing : (batch : BatchValue) (checker : CheckerValue) (reader : ReaderValue) → batch ≡ record { checker = checker; lines = [] } → checker ≡ begun I g (at_start I g) → reader ≡ beginning → IsFed I g [] (record { batch = batch; reader = reader; taken = 0; stage = Open })
  fed_nothing batch checker reader empty new unread =
      let same : batch ≡ record { checker = begun I g (at_start I g); lines = [] } = empty ∙ ap (λ (x : CheckerValue). record { checker = x; lines = [] }) new in
      subst (λ (b : BatchValue). IsFed I g [] (record { batch = b; reader = reader; taken = 0; stage = Open })) (sym same)
      (subst (λ (r : ReaderValue). IsFed I g [] (record { batch = record { checker = begun I g (at_start I g); lines = [] }; reader = r; taken = 0; stage = Open })) (sym unread) first_fed)
