use Rattle.std.proofs.Common.{ℕ, ◌≤◌, All, sym, subst}
use Rattle.cert_text.specs.declared.lines.ArcPrice.{ArcPrice}
use Rattle.search_tests.proofs.tests.masters.shown_by.Goals as goal

pub worth-worth-requires-clause-known : goal.worth-worth-requires-clause-known
worth-worth-requires-clause-known c = record {
  items = c.requires.valid.items;
  arcs = subst (λ (n : ℕ). All (λ (x : ArcPrice). x.arc ≤ n) c.args.prices.now.arcs) (sym c.requires.size) c.requires.valid.arcs;
}
