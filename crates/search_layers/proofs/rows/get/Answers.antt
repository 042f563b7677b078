-- `search_layers::rows::get` meets its contract.
-- Assumes nothing.
use mathlib.Core.Path.{◌∙◌, ap, sym, subst}
use Rattle.search_layers.specs.Words.{never_word, time_word, TimeWord}
use Rattle.search_layers.proofs.NetworkLaws.{node_below}
use Rattle.search_layers.proofs.RowLaws.{time_none, time_some, time_row, word_good}
use Rattle.search_layers.proofs.rows.get.Goals as goal

pub returns-then-word-clause-time : goal.returns-then-word-clause-time
unfolding never_word
returns-then-word-clause-time c = time_none _ c.if-word.true ∙ ap time_word c.word-word.ensures

pub returns-else-word-clause-time : goal.returns-else-word-clause-time
unfolding never_word
returns-else-word-clause-time c = time_some _ c.if-word.false ∙ ap time_word c.word-word.ensures

pub returns-else-word-clause-good : goal.returns-else-word-clause-good
unfolding never_word
returns-else-word-clause-good c timed =
    let row = time_row c.args.words.now c.args.k _ timed c.requires.0 (node_below _ c.requires.1) in
    word_good _ (subst TimeWord (sym c.word-word.ensures) row) c.if-word.false
