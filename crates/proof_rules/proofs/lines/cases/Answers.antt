use Rattle.proof_rules.proofs.PartLemmas.{IfOk_from}
use Rattle.proof_rules.proofs.LineLemmas.{cases_found}
use Rattle.proof_rules.specs.Held.{context_of}
use Rattle.proof_rules.proofs.lines.cases.Goals as goal

pub returns : goal.returns
returns c =
    IfOk_from c.or_cases.result
    (λ o e k s w bare n a. cases_found s w bare n c.args.f c.args.count c.args.facts.now c.in-Some.fact.now o c.in-Some.ensures (e s w (context_of s w bare c.args.facts.now)) a (k s w))
    c.or_cases.ensures.value c.or_cases.ensures.kept
