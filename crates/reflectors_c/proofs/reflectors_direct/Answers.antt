use Rattle.std.proofs.Common.{rules}
use Rattle.reflectors_c.specs.Coded.{HostAnswer}
use Rattle.reflectors_c.proofs.Telling.{host_tells}
use Rattle.reflectors_c.proofs.reflectors_direct.Goals as goal

-- of what the answer keeps alone
pub returns-clause-tells : goal.returns-clause-tells
returns-clause-tells c =
    let keeps : HostAnswer c.args.table.now c.args.injected c.args.buffer.now c.direct.new.buffer c.code.result = search rules in
    host_tells c.args.table.now c.args.injected c.args.buffer.now c.direct.new.buffer c.code.result keeps
