use Rattle.arc_compile.proofs.forms.ranked_forms.Goals as goal

pub returns-clause-ranked : goal.returns-clause-ranked
returns-clause-ranked g c = λ t cap_is r. (
  λ m. (c.in_ok-ranked.ensures.ranked t cap_is r).0 ((c.sort_distinct.ensures.same r).0 m),
  λ k. (c.sort_distinct.ensures.same r).1 ((c.in_ok-ranked.ensures.ranked t cap_is r).1 k),
)
