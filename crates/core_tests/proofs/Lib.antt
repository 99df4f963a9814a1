mod UnderWay
mod Draining
