use Rattle.std.proofs.Common.{◌∙◌, map}
use Rattle.std.proofs.lemmas.Result.{err_from_is_err_and}
use Rattle.room_io.specs.declared.room.Slot.TheVariants.{Data}
use Rattle.comtrade_write.specs.Recordings.{data_of}
use Rattle.relay_tool.specs.Output.{data_item}
use Rattle.relay_tool.proofs.Writing.{OnlyUses-trans, Makes-nothing, Makes-stop, Makes-more}
use Rattle.relay_tool.proofs.pair.put_pair.Goals as goal

pub returns-in_err-put_config-clause-made : goal.returns-in_err-put_config-clause-made
returns-in_err-put_config-clause-made g c common settings k past stands =
    let p = err_from_is_err_and c.from_residual.result c.from_residual.ensures.1 in
    rw (p.1, p.2) (Makes-stop (map (data_item settings.name) (data_of common settings k past)) (Makes-nothing _) (c.in_err-put_config.ensures.made common settings k past stands))

pub put_data-requires-clause-values : goal.put_data-requires-clause-values
put_data-requires-clause-values g c = (c.requires.values.0, (c.in_ok-put_config.ensures.only.each Data).ready ∙ c.requires.values.1)

pub returns-clause-only : goal.returns-clause-only
returns-clause-only g c = OnlyUses-trans c.in_ok-put_config.ensures.only c.put_data.ensures.only

pub returns-clause-made : goal.returns-clause-made
returns-clause-made g c common settings k past stands = Makes-more c.put_data.result (c.in_ok-put_config.ensures.made common settings k past stands) (c.put_data.ensures.made common settings k past stands)
