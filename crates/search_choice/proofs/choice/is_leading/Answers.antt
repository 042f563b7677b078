-- `search_choice::choice::is_leading` meets its contract.
-- Assumes nothing.
use mathlib.Core.Path.{◌≡◌, ◌∙◌}
use Rattle.std.proofs.Common.{rules}
use Rattle.walk.specs.Model.{is_before}
use Rattle.search_layers.proofs.ReadCode.{Read, read_by}
use Rattle.search_choice.proofs.ChoiceCode.{leads_elsewhere, leads_by}
use Rattle.search_choice.proofs.choice.is_leading.Goals as goal

pub returns-then-ne : goal.returns-then-ne
returns-then-ne c =
    let apart : c.contact-pass.result.to.0 ≡ c.args.node.0 → ⊥ = search (rules, c.if-ne.ensures) in
    let read : Read _ _ _ = read_by _ _ _ c.contact-pass.ensures.is c.contact-pass.ensures.good in
    leads_elsewhere _ _ _ _ _ _ _ _ c.requires.3 read apart

pub returns : goal.returns
returns c =
    let before : c.is_some_and.result ≡ is_before c.arrive.result c.args.limit.0 = search rules in
    let same : c.contact-pass.result.to.0 ≡ c.args.node.0 = search (rules, c.if-ne.ensures) in
    let read : Read _ _ _ = read_by _ _ _ c.contact-pass.ensures.is c.contact-pass.ensures.good in
    before
    ∙ leads_by _ _ _ _ _ _ _ _ c.requires.3 read same c.requires.2 _ _ c.get-ready.ensures.time c.arrive.ensures.time
