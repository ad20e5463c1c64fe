use Rattle.std.proofs.Common.{◌++◌, length, refl}
use Rattle.std.specs.Prelude.{◌%◌, ◌^◌, codes}
use Rattle.std.specs.List.{sum_by}
use Rattle.mc_item.specs.declared.stat.Stat.TheVariants.{LimitMaxbytes}
use Rattle.mc_wire.proofs.Sinks.{breaks}
use Rattle.mc_reply.specs.Text.{item_stats, command_stats, traffic_text}
use Rattle.mc_reply.specs.internal.SlotTexts.{slot_stat, sums_text}
use Rattle.mc_reply.proofs.Texts.{first_breaks, part_breaks, writes_rest, wrote_first, wrote_more}
use Rattle.mc_reply.proofs.stats.put_stats.Goals as goal

pub returns-in_err-put_server : goal.returns-in_err-put_server
returns-in_err-put_server g c =
    let slots = c.args.slots.now in
    let traffic = traffic_text c.args.server.now (sum_by (slot_stat LimitMaxbytes) slots % 2 ^ 64) (length slots) in
    breaks _ c.from_residual.result _ _ c.from_residual.ensures.0
    (first_breaks _ (sums_text slots command_stats ++ (traffic ++ (sums_text slots item_stats ++ codes "END\r\n"))) refl
    c.in_err-put_server.ensures)

pub returns-in_err-put_commands : goal.returns-in_err-put_commands
returns-in_err-put_commands g c =
    let slots = c.args.slots.now in
    let traffic = traffic_text c.args.server.now (sum_by (slot_stat LimitMaxbytes) slots % 2 ^ 64) (length slots) in
    breaks _ c.from_residual-in_err-put_commands.result _ _ c.from_residual-in_err-put_commands.ensures.0
    (part_breaks _ (traffic ++ (sums_text slots item_stats ++ codes "END\r\n"))
    (wrote_first _ refl c.in_ok-put_server.ensures) c.in_err-put_commands.ensures)

pub returns-in_err-put_traffic : goal.returns-in_err-put_traffic
returns-in_err-put_traffic g c =
    let slots = c.args.slots.now in
    let traffic = traffic_text c.args.server.now (sum_by (slot_stat LimitMaxbytes) slots % 2 ^ 64) (length slots) in
    breaks _ c.from_residual-in_err-put_traffic.result _ _ c.from_residual-in_err-put_traffic.ensures.0
    (part_breaks _ (sums_text slots item_stats ++ codes "END\r\n")
    (wrote_more _ (traffic ++ (sums_text slots item_stats ++ codes "END\r\n"))
    (wrote_first _ refl c.in_ok-put_server.ensures) c.in_ok-put_commands.ensures) c.in_err-put_traffic.ensures)

pub returns-in_err-put_items : goal.returns-in_err-put_items
returns-in_err-put_items g c =
    let slots = c.args.slots.now in
    let traffic = traffic_text c.args.server.now (sum_by (slot_stat LimitMaxbytes) slots % 2 ^ 64) (length slots) in
    breaks _ c.from_residual-in_err-put_items.result _ _ c.from_residual-in_err-put_items.ensures.0
    (part_breaks _ (codes "END\r\n")
    (wrote_more _ (sums_text slots item_stats ++ codes "END\r\n")
    (wrote_more _ (traffic ++ (sums_text slots item_stats ++ codes "END\r\n"))
    (wrote_first _ refl c.in_ok-put_server.ensures) c.in_ok-put_commands.ensures) c.in_ok-put_traffic.ensures)
    c.in_err-put_items.ensures)

pub returns : goal.returns
returns g c =
    let slots = c.args.slots.now in
    let traffic = traffic_text c.args.server.now (sum_by (slot_stat LimitMaxbytes) slots % 2 ^ 64) (length slots) in
    writes_rest _ c.write_all.result
    (wrote_more _ (codes "END\r\n")
    (wrote_more _ (sums_text slots item_stats ++ codes "END\r\n")
    (wrote_more _ (traffic ++ (sums_text slots item_stats ++ codes "END\r\n"))
    (wrote_first _ refl c.in_ok-put_server.ensures) c.in_ok-put_commands.ensures) c.in_ok-put_traffic.ensures)
    c.in_ok-put_items.ensures)
    c.write_all.ensures
