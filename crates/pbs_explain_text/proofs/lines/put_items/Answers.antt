use Rattle.pbs_explain_text.proofs.ItemsLeft.{line_more}
use Rattle.pbs_explain_text.proofs.lines.put_items.Goals as goal

pub loop-item-preserved : goal.loop-item-preserved
loop-item-preserved c = (
  c.item_end-from.ensures.room c.loop-item.item-index c.loop-item.invariant.0,
  line_more c.args.places.now c.args.scopes.now c.loop-item.from c.item_end-from.result c.loop-item.item-index
      c.args.items.now _ c.loop-item.text.items c.put_item.new.text.items _ c.loop-item-test.true
      c.in_ok-put_item.ensures c.item_end-from.ensures.end c.loop-item.invariant.1,
)
