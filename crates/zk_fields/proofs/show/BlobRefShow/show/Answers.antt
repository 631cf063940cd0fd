use Rattle.std.proofs.Common.{rules}
use Rattle.std.specs.Prelude.{Some, None}
use Rattle.zk_fields.proofs.Rooms.{takes_blob}
use Rattle.zk_fields.proofs.show.BlobRefShow.show.Goals as goal

pub returns-in-Null : goal.returns-in-Null
returns-in-Null c = takes_blob c.args.at c.args.room.now c.args.name c.args.self.now None c.run_field.result c.run_field.new.room c.in-Null.is c.run_field.ensures

pub returns-in-Full : goal.returns-in-Full
returns-in-Full c = takes_blob c.args.at c.args.room.now c.args.name c.args.self.now (Some c.as_slice.result.now) c.run_field-in-Full.result c.run_field-in-Full.new.room (search (c.in-Full.is, rules)) c.run_field-in-Full.ensures
