-- Each early return makes one part of the test false; blocks in form have sequences below 2^48.
use mathlib.Core.Path.{refl, sym, ◌∙◌}
use Prim.Native.Nat.{◌<◌, ◌^◌}
use native.Mathlib.Omega.{arith}
use Rattle.fields.specs.Block.{medium_length}
use Rattle.opening.proofs.SurveyLaws.{no_master, oldest_low, blocks_below, count_is, count_low, no_blocks, no_pages, all_in_form}
use Rattle.opening.proofs.survey.read_log.Goals as goal

pub master_ok-requires : goal.master_ok-requires
unfolding medium_length
master_ok-requires c = omega (arith, c.requires.ready.low, c.requires.pages_bound.1)

pub returns-then-not-master_ok : goal.returns-then-not-master_ok
returns-then-not-master_ok c = no_master _ _ _ (sym c.master_ok.ensures ∙ c.if-not-master_ok.true)

pub oldest-oldest-requires : goal.oldest-oldest-requires
unfolding medium_length
oldest-oldest-requires c = omega (arith, c.requires.ready.low, c.requires.pages_bound.1)

pub read_count-count-requires-clause-oldest_bound : goal.read_count-count-requires-clause-oldest_bound
read_count-count-requires-clause-oldest_bound c =
    rw c.oldest-oldest.ensures (oldest_low _ _ _ (sym c.master_ok.ensures ∙ c.if-not-master_ok.false))

pub blocks_ok-requires-clause-oldest_bound : goal.blocks_ok-requires-clause-oldest_bound
blocks_ok-requires-clause-oldest_bound c = (
  rw c.oldest-oldest.ensures (oldest_low _ _ _ (sym c.master_ok.ensures ∙ c.if-not-master_ok.false)),
  omega (arith, c.requires.ready.high, count_low _ _ c.args.pages _ _ c.oldest-oldest.ensures c.read_count-count.ensures),
)

pub returns-then-not-blocks_ok : goal.returns-then-not-blocks_ok
returns-then-not-blocks_ok c =
    no_blocks _ _ _ _ _ c.oldest-oldest.ensures c.read_count-count.ensures (sym c.master_ok.ensures ∙ c.if-not-master_ok.false) (sym c.blocks_ok.ensures ∙ c.if-not-blocks_ok.true)

pub log_end-end-requires-clause-oldest_value : goal.log_end-end-requires-clause-oldest_value
log_end-end-requires-clause-oldest_value c =
    (c.oldest-oldest.ensures, count_is _ _ c.args.pages _ _ c.oldest-oldest.ensures c.read_count-count.ensures)

pub log_end-end-requires-clause-oldest_bound : goal.log_end-end-requires-clause-oldest_bound
log_end-end-requires-clause-oldest_bound c =
    let low : c.oldest-oldest.result < 2 ^ 48 = rw c.oldest-oldest.ensures (oldest_low _ _ _ (sym c.master_ok.ensures ∙ c.if-not-master_ok.false)) in
    (low, blocks_below _ _ _ _ _ _ (sym c.blocks_ok.ensures ∙ c.if-not-blocks_ok.false) (omega arith))

pub pages_ok-requires : goal.pages_ok-requires
unfolding medium_length
pages_ok-requires c =
    record {
      ready = c.requires.ready;
      pages_in_bounds = omega (arith, c.requires.pages_bound.1);
      pages_bound = c.requires.pages_bound.0;
      end_value = c.log_end-end.ensures;
    }

pub returns-then-not-pages_ok : goal.returns-then-not-pages_ok
returns-then-not-pages_ok c =
    no_pages _ _ _ _ _ c.oldest-oldest.ensures c.read_count-count.ensures (sym c.master_ok.ensures ∙ c.if-not-master_ok.false) (sym c.blocks_ok.ensures ∙ c.if-not-blocks_ok.false)
    (sym c.pages_ok.ensures ∙ c.if-not-pages_ok.true)

pub returns : goal.returns
returns c =
    record {
      ok = all_in_form _ _ _ _ _ c.oldest-oldest.ensures c.read_count-count.ensures (sym c.master_ok.ensures ∙ c.if-not-master_ok.false) (sym c.blocks_ok.ensures ∙ c.if-not-blocks_ok.false)
          (sym c.pages_ok.ensures ∙ c.if-not-pages_ok.false);
      sequence = c.oldest-oldest.ensures;
      at = refl;
      left = count_is _ _ c.args.pages _ _ c.oldest-oldest.ensures c.read_count-count.ensures;
      end = c.log_end-end.ensures;
    }
