use Rattle.process_errors.proofs.ChannelErrors as laws
use Rattle.process_errors.proofs.ReceiveErrors as receives
use Rattle.process_errors.proofs.laws.channel_errors_are_listed.Goals as goal

pub returns-clause-read : goal.returns-clause-read
returns-clause-read c = laws.read_is_listed

pub returns-clause-write : goal.returns-clause-write
returns-clause-write c = laws.write_is_listed

pub returns-clause-receive : goal.returns-clause-receive
returns-clause-receive c = receives.receive_is_listed

pub returns-clause-send : goal.returns-clause-send
returns-clause-send c = laws.send_is_listed

pub returns-clause-shut : goal.returns-clause-shut
returns-clause-shut c = laws.shut_is_listed
